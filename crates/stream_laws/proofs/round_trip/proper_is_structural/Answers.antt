use Rattle.stream_laws.proofs.ProperMaking.{in-parts, from-parts}
use Rattle.stream_laws.proofs.round_trip.proper_is_structural.Goals as goal

pub returns-clause-parts : goal.returns-clause-parts
returns-clause-parts c = λ e p. in-parts e p

pub returns-clause-whole : goal.returns-clause-whole
returns-clause-whole c = λ e p. from-parts e p
