use Rattle.stream_laws.proofs.RoundTripInsert.{bare-comes, bare-named, bare-default}
use Rattle.stream_laws.proofs.round_trip.a_bare_header_begins_a_stream.Goals as goal

pub returns-clause-comes : goal.returns-clause-comes
returns-clause-comes c = λ r h. bare-comes r h

pub returns-clause-named : goal.returns-clause-named
returns-clause-named c = bare-named

pub returns-clause-default : goal.returns-clause-default
returns-clause-default c = bare-default
