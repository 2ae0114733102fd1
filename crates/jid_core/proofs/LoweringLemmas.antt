-- Lowering the letters of ASCII in a text lowers them in its characters.
use Rattle.std.proofs.Common.{◌≡◌, ℕ, ◌≤◌, true, List, [], ◌∷◌, ◌++◌, map, get_or, chars, encode_utf8_all, IsUtf8}
use Rattle.std.proofs.Common.{All, refl, sym, ap, ap₂, ◌∙◌, arith, inl, inr, append-nil}
use Rattle.std.proofs.Math.Utf8.{scalar, low_scalar}
use Rattle.std.proofs.lemmas.Bool.{cases_lt, and_parts, and_from}
use Rattle.std.proofs.lemmas.Bool.Decides.{nat_tests}
use Rattle.std.proofs.lemmas.List.{map-append, get_or_default}
use Rattle.std.proofs.lemmas.List.Elements.{All-head, All-tail}
use Rattle.std.proofs.lemmas.Str.{inside_one, encode_ascii, encodes-chars, chars-encodes, scalars-chars}
use Rattle.std.proofs.lemmas.Str.Ascii.{lowercase_ascii, lowercase-lowercase}
use Rattle.std.specs.Char.{encode_utf8, to_ascii_lowercase}
use Rattle.std.specs.Str.{str_to_ascii_lowercase, all_scalars}

high-kept : (b : ℕ) → 128 ≤ b → to_ascii_lowercase b ≡ b
high-kept b high = grind (arith, nat_tests)

all-kept : (bs : List ℕ) → All (λ b. 128 ≤ b) bs → str_to_ascii_lowercase bs ≡ bs
all-kept [] high = refl
all-kept (b ∷ bs) high = ap₂ ◌∷◌ (high-kept b (All-head (λ x. 128 ≤ x) b bs high)) (all-kept bs (All-tail (λ x. 128 ≤ x) b bs high))

-- the bytes of a character beyond ASCII are beyond ASCII
high-bytes : (c : ℕ) → 128 ≤ c → All (λ b. 128 ≤ b) (encode_utf8 c)
high-bytes c high k d lt =
    elim (cases_lt (get_or (encode_utf8 c) k 0) 128) [
      | inl low ↦ absurd (let same : c ≡ get_or (encode_utf8 c) k 0 =
          inside_one c [] (encode_utf8 c) k (sym (append-nil (encode_utf8 c))) lt low in omega arith)
      | inr above ↦ omega (arith, above, get_or_default (encode_utf8 c) k 0 d lt)
    ]

lowered-char : (c : ℕ) → str_to_ascii_lowercase (encode_utf8 c) ≡ encode_utf8 (to_ascii_lowercase c)
lowered-char c =
    elim (cases_lt c 128) [
      | inl low ↦ ap str_to_ascii_lowercase (encode_ascii c low) ∙ sym (encode_ascii (to_ascii_lowercase c) (lowercase_ascii c low))
      | inr high ↦ all-kept (encode_utf8 c) (high-bytes c high) ∙ ap encode_utf8 (sym (high-kept c high))
    ]

lowered-encodes : (cs : List ℕ) → str_to_ascii_lowercase (encode_utf8_all cs) ≡ encode_utf8_all (map to_ascii_lowercase cs)
lowered-encodes [] = refl
lowered-encodes (c ∷ cs) = map-append to_ascii_lowercase (encode_utf8 c) (encode_utf8_all cs) ∙ ap₂ ◌++◌ (lowered-char c) (lowered-encodes cs)

scalar-lowered : (c : ℕ) → scalar c ≡ true → scalar (to_ascii_lowercase c) ≡ true
scalar-lowered c h =
    elim (cases_lt c 128) [
      | inl low ↦ low_scalar (to_ascii_lowercase c) (omega (arith, lowercase_ascii c low))
      | inr high ↦ ap scalar (high-kept c high) ∙ h
    ]

scalars-lowered : (cs : List ℕ) → all_scalars cs ≡ true → all_scalars (map to_ascii_lowercase cs) ≡ true
scalars-lowered [] h = refl
scalars-lowered (c ∷ cs) h =
    let parts = and_parts (scalar c) (all_scalars cs) h in and_from _ _ (scalar-lowered c parts.0) (scalars-lowered cs parts.1)

pub lowered-is : (bs : List ℕ) → IsUtf8 bs → str_to_ascii_lowercase bs ≡ encode_utf8_all (map to_ascii_lowercase (chars bs))
lowered-is bs text = ap str_to_ascii_lowercase (sym (encodes-chars bs text)) ∙ lowered-encodes (chars bs)

pub IsUtf8-lowered : (bs : List ℕ) → IsUtf8 bs → IsUtf8 (str_to_ascii_lowercase bs)
IsUtf8-lowered bs text = (map to_ascii_lowercase (chars bs), (scalars-lowered (chars bs) (scalars-chars bs text), sym (lowered-is bs text)))

pub chars-lowered : (bs : List ℕ) → IsUtf8 bs → chars (str_to_ascii_lowercase bs) ≡ map to_ascii_lowercase (chars bs)
chars-lowered bs text = ap chars (lowered-is bs text) ∙ chars-encodes _ (scalars-lowered (chars bs) (scalars-chars bs text))

pub lowered-lowered : (bs : List ℕ) → str_to_ascii_lowercase (str_to_ascii_lowercase bs) ≡ str_to_ascii_lowercase bs
lowered-lowered [] = refl
lowered-lowered (b ∷ bs) = ap₂ ◌∷◌ (lowercase-lowercase b) (lowered-lowered bs)
