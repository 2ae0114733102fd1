use Rattle.std.proofs.Common.{◌≡◌, ◌++◌, map}
use Rattle.muc_service.specs.Rooms.{renamed_if}
use Rattle.muc_service.proofs.seating.rename_all.Given as goal

abbrev pub invariant-loop-occupant : goal.invariant-loop-occupant
invariant-loop-occupant l = record {
  made : l.all.items ++ map (renamed_if l.fn.session l.fn.nick) l.occupant-iterator.rest.items
      ≡ map (renamed_if l.fn.session l.fn.nick) l.fn.occupants.items;
}
