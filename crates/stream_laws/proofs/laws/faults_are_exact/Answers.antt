use Rattle.stream_laws.proofs.Faultless.{goes_faultless, faultless_goes, first_waits, first_stops}
use Rattle.stream_laws.proofs.laws.faults_are_exact.Goals as goal

pub returns-clause-stops : goal.returns-clause-stops
returns-clause-stops c = λ l bytes b f k none e. first_waits l bytes b f k none e

pub returns-clause-refused : goal.returns-clause-refused
returns-clause-refused c = λ l bytes b f e. first_stops l bytes b f e

pub returns-clause-faultless : goal.returns-clause-faultless
returns-clause-faultless c = λ l bytes none. faultless_goes l bytes none

pub returns-clause-goes_on : goal.returns-clause-goes_on
returns-clause-goes_on c = λ l bytes o. goes_faultless l bytes o
