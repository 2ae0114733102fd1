use Rattle.stream_laws.proofs.ProperMaking.{ascii-name, ascii-text}
use Rattle.stream_laws.proofs.round_trip.ascii_is_proper.Goals as goal

pub returns-clause-name : goal.returns-clause-name
returns-clause-name c = λ bytes h. ascii-name bytes h

pub returns-clause-text : goal.returns-clause-text
returns-clause-text c = λ bytes h. ascii-text bytes h
