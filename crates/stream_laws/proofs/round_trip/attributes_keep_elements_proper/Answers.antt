use Rattle.stream_laws.proofs.ProperMaking.{with-proper, without-proper, sent-proper}
use Rattle.stream_laws.proofs.round_trip.attributes_keep_elements_proper.Goals as goal

pub returns-clause-set : goal.returns-clause-set
returns-clause-set c = λ local value e n other v p. with-proper local value e n other v p

pub returns-clause-taken : goal.returns-clause-taken
returns-clause-taken c = λ local e p. without-proper local e p

pub returns-clause-sent : goal.returns-clause-sent
returns-clause-sent c = λ from e x p. sent-proper from e x p
