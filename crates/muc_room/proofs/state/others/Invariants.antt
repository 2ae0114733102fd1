use Rattle.std.proofs.Common.{◌≡◌, ◌++◌, drop}
use Rattle.muc_room.specs.States.{others}
use Rattle.muc_room.proofs.state.others.Given as goal

abbrev pub invariant-loop-x : goal.invariant-loop-x
invariant-loop-x l = l.kept.items ++ others l.fn.address (drop l.x-index l.known) ≡ others l.fn.address l.fn.known
