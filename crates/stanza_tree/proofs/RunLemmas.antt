-- Bytes that stand for themselves are spelt as they are, a run at a time.
use Rattle.std.proofs.Common.{◌≡◌, ◌∙◌, ℕ, Bool, true, false, max, refl, ◌+◌, ◌<◌, ◌≤◌, ◌-◌, List, [], ◌∷◌, ◌++◌, length}
use Rattle.std.proofs.Common.{length-append, drop, take, slice_range, slice_index, flat_map, sym, ap, arith, append_assoc}
use Rattle.std.proofs.lemmas.Grind.{common_steps}
use Rattle.stanza_tree.specs.Spelling.{escaped_in_words, escaped_in_value}
use Rattle.std.proofs.Math.Seq.{take-add}

-- what is left begins with the byte that is looked at
pub spelt_next : (f : ℕ → List ℕ) (xs : List ℕ) (i : ℕ) → i < length xs → flat_map f (drop i xs) ≡ f (slice_index xs i) ++ flat_map f (drop (i + 1) xs)
spelt_next f xs i within = grind (arith, common_steps)

range_by : (xs : List ℕ) (from n : ℕ) → from + n < length xs → take (n + 1) (drop from xs) ≡ take n (drop from xs) ++ slice_index xs (from + n) ∷ []
range_by xs from n within = take-add n 1 (drop from xs) ∙ ap (λ l. take n (drop from xs) ++ l) (grind (arith, common_steps))

pub range_next : (xs : List ℕ) (from i : ℕ) → from ≤ i → i < length xs → slice_range xs from (i + 1) ≡ slice_range xs from i ++ slice_index xs i ∷ []
range_next xs from i low within =
    let e : i + 1 - from ≡ (i - from) + 1 = omega arith in
    let here : from + (i - from) ≡ i = omega arith in
    ap (λ n. take n (drop from xs)) e ∙ range_by xs from (i - from) (omega arith) ∙ ap (λ n. take (i - from) (drop from xs) ++ slice_index xs n ∷ []) here

-- a byte that stands for itself lengthens the run
pub run_longer : (f : ℕ → List ℕ) (xs before : List ℕ) (from i : ℕ) → from ≤ i → i < length xs → f (slice_index xs i) ≡ slice_index xs i ∷ []
    → before ++ slice_range xs from (i + 1) ++ flat_map f (drop (i + 1) xs) ≡ before ++ slice_range xs from i ++ flat_map f (drop i xs)
run_longer f xs before from i low within plain =
    let rest = flat_map f (drop (i + 1) xs) in
    ap (λ r. before ++ r ++ rest) (range_next xs from i low within)
    ∙ ap (λ r. r ++ rest) (sym (append_assoc before (slice_range xs from i) (slice_index xs i ∷ [])))
    ∙ append_assoc (before ++ slice_range xs from i) (slice_index xs i ∷ []) rest
    ∙ ap (λ r. before ++ slice_range xs from i ++ r) (sym (spelt_next f xs i within ∙ ap (λ r. r ++ rest) plain))

-- Bytes that are spelt otherwise lengthen the text.

pub words-long : (b : ℕ) → ¬ (escaped_in_words b ≡ b ∷ []) → 2 ≤ length (escaped_in_words b)
unfolding escaped_in_words
words-long b h = grind (arith, common_steps, h)

pub value-long : (b : ℕ) → ¬ (escaped_in_value b ≡ b ∷ []) → 2 ≤ length (escaped_in_value b)
unfolding escaped_in_value escaped_in_words
value-long b h = grind (arith, common_steps, h)

-- one more byte is tested, and a number is more than 0 once a byte was spelt otherwise
pub tested_next : (f : ℕ → List ℕ) (xs : List ℕ) (i escapes after : ℕ) (plain : Bool) → i < length xs → ((b : ℕ) → ¬ (f b ≡ b ∷ []) → 2 ≤ length (f b))
    → (plain ≡ true → f (slice_index xs i) ≡ slice_index xs i ∷ []) → (f (slice_index xs i) ≡ slice_index xs i ∷ [] → plain ≡ true)
    → (plain ≡ true → after ≡ escapes) → (plain ≡ false → after ≡ max escapes 1)
    → (escapes ≡ 0 → slice_range xs 0 i ++ flat_map f (drop i xs) ≡ flat_map f xs) → i + length (flat_map f (drop i xs)) + escapes ≤ length (flat_map f xs)
    → (after ≡ 0 → slice_range xs 0 (i + 1) ++ flat_map f (drop (i + 1) xs) ≡ flat_map f xs)
    × (i + 1 + length (flat_map f (drop (i + 1) xs)) + after ≤ length (flat_map f xs))
tested_next f xs i escapes after true within long is from_is same more so_far longer =
    let e = ap length (spelt_next f xs i within ∙ ap (λ (s : List ℕ). s ++ flat_map f (drop (i + 1) xs)) (is refl)) in (
      λ none. run_longer f xs [] 0 i (omega arith) within (is refl) ∙ so_far (omega (arith, same refl, none)),
      omega (arith, e, same refl, longer),
    )
tested_next f xs i escapes after false within long is from_is same more so_far longer =
    let e = ap length (spelt_next f xs i within) ∙ length-append (f (slice_index xs i)) (flat_map f (drop (i + 1) xs)) in
    let two = long (slice_index xs i) (λ h. absurd (let z : false ≡ true = from_is h in cc)) in (
      λ none. absurd (omega (arith, more refl, none)),
      omega (arith, e, two, more refl, longer),
    )
