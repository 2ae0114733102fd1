-- The octets of an exclusive-or.
use Rattle.std.proofs.Common.{◌≡◌, ℕ, zero, suc, ◌<◌, List, [], ◌∷◌, length, slice_index, bit_xor, arith, ap, refl}
use Rattle.hmac_kdf.specs.Hi.{exclusive_or}

pub length-exclusive_or : (xs ys : List ℕ) → length xs ≡ length ys
    → length (exclusive_or xs ys) ≡ length xs
length-exclusive_or [] ys same = refl
length-exclusive_or (x ∷ xs) [] same = absurd (omega arith)
length-exclusive_or (x ∷ xs) (y ∷ ys) same = ap suc (length-exclusive_or xs ys (omega arith))

pub slice_index-exclusive_or : (xs ys : List ℕ) (k : ℕ) → length xs ≡ length ys → k < length xs
    → slice_index (exclusive_or xs ys) k ≡ bit_xor (slice_index xs k) (slice_index ys k)
slice_index-exclusive_or [] ys k same within = absurd (omega arith)
slice_index-exclusive_or (x ∷ xs) [] k same within = absurd (omega arith)
slice_index-exclusive_or (x ∷ xs) (y ∷ ys) zero same within = refl
slice_index-exclusive_or (x ∷ xs) (y ∷ ys) (suc k) same within =
    slice_index-exclusive_or xs ys k (omega arith) (omega arith)
