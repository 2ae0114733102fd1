use Rattle.std.proofs.Common.{◌≡◌, ℕ, ◌<◌, length, slice_index, bit_xor}
use Rattle.hmac_kdf.proofs.block.mask.Given as goal

-- The bytes before the index are masked.
abbrev pub invariant-loop-i : goal.invariant-loop-i
invariant-loop-i l = record {
  whole : length l.out ≡ 64;
  masked_before : (k : ℕ) → k < l.i → slice_index l.out k ≡ bit_xor (slice_index l.block k) l.pad;
}
