use Rattle.stream_laws.proofs.Closing.{ended-is, spells-ended}
use Rattle.stream_laws.proofs.laws.streams_end.Goals as goal

pub returns-clause-whole : goal.returns-clause-whole
returns-clause-whole c = λ r bytes e. ended-is r bytes e

pub returns-clause-ended : goal.returns-clause-ended
returns-clause-ended c = λ r bytes s h. spells-ended r bytes s h
