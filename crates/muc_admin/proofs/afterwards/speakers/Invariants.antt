use Rattle.std.proofs.Common.{◌≡◌, ◌++◌, drop}
use Rattle.muc_admin.specs.Afterwards.{speakers}
use Rattle.muc_admin.proofs.afterwards.speakers.Given as goal

abbrev pub invariant-loop-occupant : goal.invariant-loop-occupant
invariant-loop-occupant l =
    l.sessions.items ++ speakers l.fn.address (drop l.occupant-index l.occupants) ≡ speakers l.fn.address l.fn.occupants
