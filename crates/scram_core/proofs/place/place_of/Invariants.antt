use Rattle.std.proofs.Common.{take}
use Rattle.scram_core.proofs.Leading.{Leads}
use Rattle.scram_core.proofs.place.place_of.Given as goal

-- The bytes so far lead to the stage.
abbrev pub invariant-loop-i : goal.invariant-loop-i
invariant-loop-i l = Leads l.fn.message (take l.i l.bytes) l.at
