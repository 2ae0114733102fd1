use Rattle.std.proofs.Common.{◌≡◌, ◌++◌, drop}
use Rattle.std.specs.Prelude.{flat_map}
use Rattle.muc_service.specs.Casting.{copies, copies_for}
use Rattle.muc_service.proofs.casting.push_copies.Given as goal

abbrev pub invariant-loop-occupant : goal.invariant-loop-occupant
invariant-loop-occupant l =
    l.effects.items ++ flat_map (copies_for l.fn.h l.fn.item) (drop l.occupant-index l.occupant-items)
    ≡ l.fn.effects.items ++ copies l.fn.h l.fn.item
