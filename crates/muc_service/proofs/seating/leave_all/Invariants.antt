use Rattle.std.proofs.Common.{◌≡◌, ◌++◌, map}
use Rattle.std.specs.List.{filter}
use Rattle.muc_service.specs.Rooms.{has_seats, without_seat}
use Rattle.muc_service.proofs.seating.leave_all.Given as goal

abbrev pub invariant-loop-occupant : goal.invariant-loop-occupant
invariant-loop-occupant l = record {
  made : l.kept.items ++ filter has_seats (map (without_seat l.fn.session) l.occupant-iterator.rest.items)
      ≡ filter has_seats (map (without_seat l.fn.session) l.fn.occupants.items);
}
