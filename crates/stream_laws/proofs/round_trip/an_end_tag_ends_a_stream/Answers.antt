use Rattle.std.proofs.Common.{refl}
use Rattle.stream_laws.proofs.RoundTripInsert.{come-ends}
use Rattle.stream_laws.proofs.round_trip.an_end_tag_ends_a_stream.Goals as goal

pub returns : goal.returns
returns c = λ r bytes root f come. let (d, spells) = come-ends r bytes root f come in (record { declared = d; root = root; content = f }, spells, refl, refl)
