use Rattle.std.proofs.Common.{◌≡◌, ◌++◌, drop, map}
use Rattle.muc_room.specs.States.{role_if}
use Rattle.muc_room.proofs.state.role_all.Given as goal

abbrev pub invariant-loop-occupant : goal.invariant-loop-occupant
invariant-loop-occupant l =
    l.all.items ++ map (role_if l.fn.session l.fn.role) (drop l.occupant-index l.occupants)
    ≡ map (role_if l.fn.session l.fn.role) l.fn.occupants
