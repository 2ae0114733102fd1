use Rattle.stream_laws.proofs.ProperStreams.{header-proper}
use Rattle.stream_laws.proofs.ProperTops.{come-all}
use Rattle.stream_laws.proofs.round_trip.what_has_come_is_proper.Goals as goal

pub returns-clause-header : goal.returns-clause-header
returns-clause-header c = λ r bytes root f come named. header-proper r bytes root f come named

pub returns-clause-tops : goal.returns-clause-tops
returns-clause-tops c = λ r bytes root f come named. come-all r bytes root f come named
