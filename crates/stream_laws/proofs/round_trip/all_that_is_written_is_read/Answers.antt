use Rattle.std.proofs.lemmas.List.Elements.{recursion_from_All}
use Rattle.stream_grammar.specs.grammar.RoundTrips.{IsWritable}
use Rattle.stream_laws.proofs.RoundTripInsert.{all-come, all-read}
use Rattle.stream_laws.proofs.round_trip.all_that_is_written_is_read.Goals as goal

pub returns-clause-goes_on : goal.returns-clause-goes_on
returns-clause-goes_on c = λ r bytes root f es come named default all. all-come r es bytes root f come named default (recursion_from_All (IsWritable r) es all)

pub returns-clause-whole : goal.returns-clause-whole
returns-clause-whole c = λ r bytes root f es come named default all. all-read r es bytes root f come named default (recursion_from_All (IsWritable r) es all)
