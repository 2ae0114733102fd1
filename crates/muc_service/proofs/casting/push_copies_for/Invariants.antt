use Rattle.std.proofs.Common.{◌≡◌, ◌++◌, drop, map}
use Rattle.muc_service.specs.Casting.{copies_for, copy_for}
use Rattle.muc_service.proofs.casting.push_copies_for.Given as goal

abbrev pub invariant-loop-seat : goal.invariant-loop-seat
invariant-loop-seat l =
    l.effects.items ++ map (copy_for l.fn.h l.fn.item l.fn.occupant) (drop l.seat-index l.seat-items)
    ≡ l.fn.effects.items ++ copies_for l.fn.h l.fn.item l.fn.occupant
