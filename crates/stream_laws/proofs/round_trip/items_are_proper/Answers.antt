use Rattle.stream_laws.proofs.ProperItems.{top_proper, header_proper}
use Rattle.stream_laws.proofs.round_trip.items_are_proper.Goals as goal

pub returns-clause-top : goal.returns-clause-top
returns-clause-top c = λ l bytes e h. top_proper l bytes e h

pub returns-clause-header : goal.returns-clause-header
returns-clause-header c = λ l bytes e space h. header_proper l bytes e space h
