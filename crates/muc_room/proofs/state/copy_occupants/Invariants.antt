use Rattle.std.proofs.Common.{◌≡◌, take}
use Rattle.muc_room.proofs.state.copy_occupants.Given as goal

abbrev pub invariant-loop-occupant : goal.invariant-loop-occupant
invariant-loop-occupant l = l.copies.items ≡ take l.occupant-index l.occupants
