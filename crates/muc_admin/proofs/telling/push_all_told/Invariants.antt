use Rattle.std.proofs.Common.{◌≡◌, ◌++◌, drop}
use Rattle.muc_admin.specs.Telling.{all_told}
use Rattle.muc_admin.proofs.telling.push_all_told.Given as goal

abbrev pub invariant-loop-occupant : goal.invariant-loop-occupant
invariant-loop-occupant l =
    l.effects.items ++ all_told l.fn.room l.fn.address l.fn.affiliation (drop l.occupant-index l.occupants)
    ≡ l.fn.effects.items ++ all_told l.fn.room l.fn.address l.fn.affiliation l.fn.occupants
