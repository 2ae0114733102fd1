use Rattle.std.proofs.Common.{◌≡◌, ◌++◌, drop, map}
use Rattle.muc_admin.specs.Telling.{leaving}
use Rattle.muc_admin.proofs.telling.push_leaves.Given as goal

abbrev pub invariant-loop-seat : goal.invariant-loop-seat
invariant-loop-seat l =
    l.effects.items ++ map (leaving l.fn.room) (drop l.seat-index l.seats) ≡ l.fn.effects.items ++ map (leaving l.fn.room) l.fn.seats
