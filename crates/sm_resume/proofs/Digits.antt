-- Bytes and their hexadecimal digits.
use Rattle.std.proofs.Common.{◌≡◌, ℕ, zero, suc, ◌+◌, ◌*◌, ◌/◌, ◌%◌, ◌<◌, List, [], ◌∷◌, ◌++◌, length, take}
use Rattle.std.proofs.Common.{get_or, slice_set, slice_index, Bool, true, ◌&&◌, ◌==◌, inl, inr, arith, refl, sym, ap, ◌∙◌, append_assoc}
use Rattle.std.proofs.Math.ListN.{length-set}
use Rattle.std.proofs.lemmas.Bool.{and_parts, cases_lt, eqb-true}
use Rattle.std.proofs.Math.Seq.{take-suc}
use Rattle.std.proofs.lemmas.Grind.{same_number_lists}
use Rattle.std.proofs.lemmas.List.{take_more_set}
use Rattle.std.proofs.lemmas.Str.{digit_value-digit_char}
use Rattle.std.specs.Char.{digit_char, digit_value}
use Rattle.hex.specs.Hex.{encode_with, lower_digits}
use Rattle.sm_resume.specs.Spelling.{AreDigits, hexadecimal}

pub length-hexadecimal : (bytes : List ℕ) → length (hexadecimal bytes) ≡ 2 * length bytes
unfolding hexadecimal
length-hexadecimal [] = refl
length-hexadecimal (byte ∷ bytes) = omega (arith, length-hexadecimal bytes)

-- One byte more has two digits more.
pub hexadecimal-one_more : (bytes : List ℕ) (byte : ℕ)
    → hexadecimal (bytes ++ byte ∷ [])
    ≡ hexadecimal bytes ++ digit_char (byte / 16) ∷ digit_char (byte % 16) ∷ []
unfolding hexadecimal
hexadecimal-one_more [] byte = refl
hexadecimal-one_more (first ∷ bytes) byte =
    ap (λ rest. digit_char (first / 16) ∷ digit_char (first % 16) ∷ rest) (hexadecimal-one_more bytes byte)

-- The two digits of the byte at a place.
pub high_digit : (bytes : List ℕ) (i : ℕ) → i < length bytes
    → get_or (hexadecimal bytes) (2 * i) 0 ≡ digit_char (get_or bytes i 0 / 16)
unfolding hexadecimal
high_digit [] i within = absurd (omega arith)
high_digit (byte ∷ bytes) zero within = refl
high_digit (byte ∷ bytes) (suc i) within =
    let place : 2 * suc i ≡ suc (suc (2 * i)) = omega arith in
    rw place (high_digit bytes i (omega arith))

pub low_digit : (bytes : List ℕ) (i : ℕ) → i < length bytes
    → get_or (hexadecimal bytes) (2 * i + 1) 0 ≡ digit_char (get_or bytes i 0 % 16)
unfolding hexadecimal
low_digit [] i within = absurd (omega arith)
low_digit (byte ∷ bytes) zero within = refl
low_digit (byte ∷ bytes) (suc i) within =
    let place : 2 * suc i + 1 ≡ suc (suc (2 * i + 1)) = omega arith in
    rw place (low_digit bytes i (omega arith))

-- Two halves of a byte with one digit are one half.
pub digit_char_injective : (a b : ℕ) → a < 16 → b < 16 → digit_char a ≡ digit_char b → a ≡ b
digit_char_injective a b small other same =
    sym (digit_value-digit_char a (omega arith))
    ∙ (ap digit_value same ∙ digit_value-digit_char b (omega arith))

-- Bytes with the same digits are the same.
pub hexadecimal_injective : (xs ys : List ℕ) → AreDigits xs → AreDigits ys
    → hexadecimal xs ≡ hexadecimal ys → xs ≡ ys
hexadecimal_injective xs ys are others same =
    same_number_lists xs ys (are.count ∙ sym others.count) (λ k within.
    let x = are.bytes k in
    let y = others.bytes k in
    let high = digit_char_injective (get_or xs k 0 / 16) (get_or ys k 0 / 16) (omega arith) (omega arith)
    (sym (high_digit xs k within)
    ∙ (ap (λ digits. get_or digits (2 * k) 0) same ∙ high_digit ys k (omega (arith, are.count, others.count)))) in
    let low = digit_char_injective (get_or xs k 0 % 16) (get_or ys k 0 % 16) (omega arith) (omega arith)
    (sym (low_digit xs k within)
    ∙ (ap (λ digits. get_or digits (2 * k + 1) 0) same ∙ low_digit ys k (omega (arith, are.count, others.count)))) in
    omega arith)

-- A byte written among sixteen.
pub AreDigits-set : (digits : List ℕ) (i byte : ℕ) → byte < 256 → AreDigits digits
    → AreDigits (slice_set digits i byte)
AreDigits-set digits i byte fits are = record {
  count = length-set digits i byte ∙ are.count;
  bytes = below digits i are.bytes;
}
  where
    below : (bytes : List ℕ) (i : ℕ) → ((k : ℕ) → get_or bytes k 0 < 256)
        → (k : ℕ) → get_or (slice_set bytes i byte) k 0 < 256
    below [] i all k = all k
    below (first ∷ bytes) zero all zero = fits
    below (first ∷ bytes) zero all (suc k) = all (suc k)
    below (first ∷ bytes) (suc i) all zero = all zero
    below (first ∷ bytes) (suc i) all (suc k) = below bytes i (λ j. all (suc j)) k

-- Two places more of a text.
two_more : (text : List ℕ) (j : ℕ) → suc j < length text
    → take (suc (suc j)) text ≡ take j text ++ get_or text j 0 ∷ get_or text (suc j) 0 ∷ []
two_more text j within =
    take-suc text (suc j) 0 within
    ∙ (ap (λ front. front ++ get_or text (suc j) 0 ∷ []) (take-suc text j 0 (omega arith))
    ∙ append_assoc (take j text) (get_or text j 0 ∷ []) (get_or text (suc j) 0 ∷ []))

-- A byte that two further digits spell.
pub hexadecimal_step : (digits text : List ℕ) (i high low : ℕ) → i < length digits
    → 2 * i + 1 < length text → high < 16 → low < 16
    → hexadecimal (take i digits) ≡ take (2 * i) text
    → digit_char high ≡ get_or text (2 * i) 0 → digit_char low ≡ get_or text (2 * i + 1) 0
    → hexadecimal (take (i + 1) (slice_set digits i (high * 16 + low))) ≡ take (2 * (i + 1)) text
hexadecimal_step digits text i high low within more small other spelt first second =
    let byte = high * 16 + low in
    let upper : byte / 16 ≡ high = omega arith in
    let lower : byte % 16 ≡ low = omega arith in
    let place : 2 * (i + 1) ≡ suc (suc (2 * i)) = omega arith in
    let next : suc (2 * i) ≡ 2 * i + 1 = omega arith in
    ap hexadecimal (take_more_set digits i byte within)
    ∙ (hexadecimal-one_more (take i digits) byte
    ∙ (ap (λ n. hexadecimal (take i digits) ++ digit_char n ∷ digit_char (byte % 16) ∷ []) upper
    ∙ (ap (λ n. hexadecimal (take i digits) ++ digit_char high ∷ digit_char n ∷ []) lower
    ∙ (ap (λ front. front ++ digit_char high ∷ digit_char low ∷ []) spelt
    ∙ (ap (λ d. take (2 * i) text ++ d ∷ digit_char low ∷ []) first
    ∙ (ap (λ d. take (2 * i) text ++ get_or text (2 * i) 0 ∷ d ∷ []) second
    ∙ (sym (ap (λ n. take (2 * i) text ++ get_or text (2 * i) 0 ∷ get_or text n 0 ∷ []) next)
    ∙ (sym (two_more text (2 * i) (omega arith))
    ∙ sym (ap (λ (n : ℕ). take n text) place)))))))))

-- The table of the digits has that of each half of a byte, as a test of its places shows.

abbrev has_digit : ℕ → Bool
has_digit half = slice_index lower_digits half == digit_char half

abbrev has_digits : ℕ → Bool
has_digits zero = true
has_digits (suc n) = has_digit n && has_digits n

has_digit-below : (n half : ℕ) → has_digits n ≡ true → half < n → has_digit half ≡ true
has_digit-below zero half all small = absurd (omega arith)
has_digit-below (suc n) half all small =
    let parts = and_parts (has_digit n) (has_digits n) all in
    elim (cases_lt half n) [
      | inl below ↦ has_digit-below n half parts.1 below
      | inr top ↦ (let same : half ≡ n = omega arith in rw same parts.0)
    ]

digit-listed : (half : ℕ) → half < 16 → slice_index lower_digits half ≡ digit_char half
digit-listed half small = eqb-true (slice_index lower_digits half) (digit_char half) (has_digit-below 16 half refl small)

pub encoded : (bytes : List ℕ) → ((k : ℕ) → get_or bytes k 0 < 256) → encode_with lower_digits bytes ≡ hexadecimal bytes
unfolding hexadecimal encode_with
encoded [] small = refl
encoded (byte ∷ bytes) small =
    let first : byte < 256 = small 0 in
    rw (digit-listed (byte / 16) (omega arith), digit-listed (byte % 16) (omega arith), encoded bytes (λ k. small (suc k))) refl
