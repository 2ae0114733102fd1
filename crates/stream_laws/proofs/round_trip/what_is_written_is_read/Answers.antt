use Rattle.stream_laws.proofs.RoundTripInsert.{written-comes, written-reads}
use Rattle.stream_laws.proofs.round_trip.what_is_written_is_read.Goals as goal

pub returns-clause-goes_on : goal.returns-clause-goes_on
returns-clause-goes_on c = λ r bytes root f e come named default writable. written-comes r bytes root f e come named default writable

pub returns-clause-whole : goal.returns-clause-whole
returns-clause-whole c = λ r bytes root f e come named default writable. written-reads r bytes root f e come named default writable
