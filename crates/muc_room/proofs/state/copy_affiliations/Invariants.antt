use Rattle.std.proofs.Common.{◌≡◌, take}
use Rattle.muc_room.proofs.state.copy_affiliations.Given as goal

abbrev pub invariant-loop-x : goal.invariant-loop-x
invariant-loop-x l = l.copies.items ≡ take l.x-index l.known
