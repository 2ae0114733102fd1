use Rattle.std.proofs.Common.{◌≡◌, ◌++◌, drop}
use Rattle.muc_owner.specs.Owning.{nicks_of}
use Rattle.muc_owner.proofs.owning.nicks_of.Given as goal

abbrev pub invariant-loop-occupant : goal.invariant-loop-occupant
invariant-loop-occupant l = l.nicks.items ++ nicks_of (drop l.occupant-index l.occupants) ≡ nicks_of l.occupants
