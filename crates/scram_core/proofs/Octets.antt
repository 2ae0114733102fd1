-- The octets of an exclusive-or, and what they tell of two texts.
use Rattle.std.proofs.Common.{◌≡◌, ℕ, zero, suc, ◌+◌, ◌<◌, List, [], ◌∷◌, length, drop, get_or, slice_index, bit_or}
use Rattle.std.proofs.Common.{bit_xor, bytes_eq, Bool, ◌&&◌, ◌==◌, arith, ap, sym, refl, ◌∙◌}
use Rattle.std.specs.Bool.{one_answer}
use Rattle.std.specs.Int.Bits.{or_zero_l, xor_assoc, xor_self, xor_zero_l, xor_zero_r}
use Rattle.std.proofs.Math.Bool.{and_assoc}
use Rattle.std.proofs.lemmas.Bool.Decides.{Decides-and, Decides-eqb}
use Rattle.std.proofs.lemmas.List.{drop_more}
use Rattle.std.proofs.lemmas.Nat.{le_or_l, le_or_r}
use Rattle.hmac_kdf.specs.Hi.{exclusive_or}
use Rattle.hmac_kdf.specs.Hmac.{hmac}
use Rattle.scram_core.specs.Login.{IsProof}

pub length-exclusive_or : (xs ys : List ℕ) → length xs ≡ length ys
    → length (exclusive_or xs ys) ≡ length xs
length-exclusive_or [] ys same = refl
length-exclusive_or (x ∷ xs) [] same = absurd (omega arith)
length-exclusive_or (x ∷ xs) (y ∷ ys) same = ap suc (length-exclusive_or xs ys (omega arith))

pub slice_index-exclusive_or : (xs ys : List ℕ) (k : ℕ) → length xs ≡ length ys → k < length xs
    → slice_index (exclusive_or xs ys) k ≡ bit_xor (slice_index xs k) (slice_index ys k)
slice_index-exclusive_or [] ys k same within = absurd (omega arith)
slice_index-exclusive_or (x ∷ xs) [] k same within = absurd (omega arith)
slice_index-exclusive_or (x ∷ xs) (y ∷ ys) zero same within = refl
slice_index-exclusive_or (x ∷ xs) (y ∷ ys) (suc k) same within =
    slice_index-exclusive_or xs ys k (omega arith) (omega arith)

twice : (x y : ℕ) → bit_xor (bit_xor x y) y ≡ x
twice x y = xor_assoc x y y ∙ (ap (λ (n : ℕ). bit_xor x n) (xor_self y) ∙ xor_zero_r x)

exclusive_or-twice : (xs ys : List ℕ) → length xs ≡ length ys → exclusive_or (exclusive_or xs ys) ys ≡ xs
exclusive_or-twice [] ys same = refl
exclusive_or-twice (x ∷ xs) [] same = absurd (omega arith)
exclusive_or-twice (x ∷ xs) (y ∷ ys) same = λ i. twice x y i ∷ exclusive_or-twice xs ys (omega arith) i

-- a proof that is made of the client's key holds
pub made-proof : (hash : List ℕ → List ℕ) (key message : List ℕ) → length key ≡ length (hmac hash (hash key) message)
    → IsProof hash (hash key) message (exclusive_or key (hmac hash (hash key) message))
made-proof hash key message same = record {
  long = length-exclusive_or key (hmac hash (hash key) message) same ∙ same;
  holds = ap hash (exclusive_or-twice key (hmac hash (hash key) message) same);
}

-- the octets x and y are the same where their exclusive-or adds nothing
same_octets : (x y : ℕ) → bit_xor x y ≡ 0 → x ≡ y
same_octets x y none = sym (twice x y) ∙ ap (λ (n : ℕ). bit_xor n y) none ∙ xor_zero_l y

none_more : (d x y : ℕ) → d ≡ 0 → x ≡ y → bit_or d (bit_xor x y) ≡ 0
none_more d x y none same =
    ap (λ (n : ℕ). bit_or n (bit_xor x y)) none ∙ or_zero_l (bit_xor x y) ∙ ap (λ (n : ℕ). bit_xor n y) same ∙ xor_self y

-- what was found so far and the next two octets are no difference where neither is one
none_yet : (d x y : ℕ) → (bit_or d (bit_xor x y) == 0) ≡ ((d == 0) && (x == y))
none_yet d x y =
    let now = Decides-eqb (bit_or d (bit_xor x y)) 0 in
    one_answer (bit_or d (bit_xor x y) == 0) ((d == 0) && (x == y)) (
      (λ h. let none = now.0 h in (omega (arith, le_or_l d (bit_xor x y), none), same_octets x y (omega (arith, le_or_r d (bit_xor x y), none)))),
      λ h. now.1 (none_more d x y h.0 h.1),
    )
    (Decides-and (d == 0) (x == y) (Decides-eqb d 0) (Decides-eqb x y))

-- one octet more of each text
pub same_more : (xs ys : List ℕ) (i d : ℕ) → i < length xs → i < length ys
    → ((bit_or d (bit_xor (get_or xs i 0) (get_or ys i 0)) == 0) && bytes_eq (drop (i + 1) xs) (drop (i + 1) ys))
    ≡ ((d == 0) && bytes_eq (drop i xs) (drop i ys))
same_more xs ys i d in_xs in_ys =
    let x = get_or xs i 0 in
    let y = get_or ys i 0 in
    let rest = bytes_eq (drop (i + 1) xs) (drop (i + 1) ys) in
    ap (λ (b : Bool). b && rest) (none_yet d x y) ∙ and_assoc (d == 0) (x == y) rest
    ∙ sym (λ k. (d == 0) && bytes_eq (drop_more xs i 0 in_xs k) (drop_more ys i 0 in_ys k))
