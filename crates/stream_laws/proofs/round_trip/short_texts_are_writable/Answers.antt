use Rattle.stream_laws.proofs.RoundTripInsert.{short-writable}
use Rattle.stream_laws.proofs.round_trip.short_texts_are_writable.Goals as goal

pub returns : goal.returns
returns c = λ r e proper fits deep wide. short-writable r e proper fits deep wide
