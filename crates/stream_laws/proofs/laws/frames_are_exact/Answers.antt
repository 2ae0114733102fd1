use Rattle.stream_grammar.proofs.Whole.{open-begins, broken-begins}
use Rattle.stream_laws.proofs.laws.frames_are_exact.Goals as goal

pub returns-clause-open : goal.returns-clause-open
returns-clause-open c = λ r bytes e. open-begins r bytes e

pub returns-clause-broken : goal.returns-clause-broken
returns-clause-broken c = λ r bytes e g. broken-begins r bytes e g
