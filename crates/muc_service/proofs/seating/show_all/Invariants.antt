use Rattle.std.proofs.Common.{◌≡◌, ◌++◌, map}
use Rattle.muc_service.specs.Rooms.{shown_if}
use Rattle.muc_service.proofs.seating.show_all.Given as goal

abbrev pub invariant-loop-occupant : goal.invariant-loop-occupant
invariant-loop-occupant l = record {
  made : l.all.items ++ map (shown_if l.fn.session l.fn.presence) l.occupant-iterator.rest.items
      ≡ map (shown_if l.fn.session l.fn.presence) l.fn.occupants.items;
}
