use Rattle.std.proofs.Common.{◌≡◌, ◌++◌, map}
use Rattle.muc_service.specs.Rooms.{joined_if}
use Rattle.muc_service.proofs.seating.join_all.Given as goal

abbrev pub invariant-loop-occupant : goal.invariant-loop-occupant
invariant-loop-occupant l = record {
  made : l.all.items ++ map (joined_if l.fn.seat l.fn.nick) l.occupant-iterator.rest.items ≡ map (joined_if l.fn.seat l.fn.nick) l.fn.occupants.items;
}
