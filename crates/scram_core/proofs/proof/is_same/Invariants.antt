use Rattle.std.proofs.Common.{◌≡◌, ◌&&◌, ◌==◌, drop, bytes_eq}
use Rattle.scram_core.proofs.proof.is_same.Given as goal

-- None of the octets before the index differs, and the others are the same, exactly where all are the same.
abbrev pub invariant-loop-i : goal.invariant-loop-i
invariant-loop-i l = ((l.differing == 0) && bytes_eq (drop l.i l.one) (drop l.i l.other)) ≡ bytes_eq l.one l.other
