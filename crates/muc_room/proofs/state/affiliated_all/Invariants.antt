use Rattle.std.proofs.Common.{◌≡◌, ◌++◌, drop, map}
use Rattle.muc_room.specs.States.{affiliated_if}
use Rattle.muc_room.proofs.state.affiliated_all.Given as goal

abbrev pub invariant-loop-occupant : goal.invariant-loop-occupant
invariant-loop-occupant l =
    l.all.items ++ map (affiliated_if l.fn.address l.fn.affiliation) (drop l.occupant-index l.occupants)
    ≡ map (affiliated_if l.fn.address l.fn.affiliation) l.fn.occupants
