use Rattle.std.proofs.Common.{◌≡◌, ℕ, ◌<◌, ◌≤◌, slice_index, bit_xor}
use Rattle.scram_core.proofs.proof.xor_into.Given as goal

-- The octets before the index are XORed, and the others are as they were.
abbrev pub invariant-loop-i : goal.invariant-loop-i
invariant-loop-i l = record {
  xored_before : (k : ℕ) → k < l.i
      → slice_index l.sum k ≡ bit_xor (slice_index l.string k) (slice_index l.initial.sum k);
  same_after : (k : ℕ) → l.i ≤ k → slice_index l.sum k ≡ slice_index l.initial.sum k;
}
