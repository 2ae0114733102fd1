-- Normalization Form C keeps characters characters, brings in no control character, and leaves something.
use Rattle.std.proofs.Common.{◌≡◌, ℕ, zero, suc, ◌+◌, ◌-◌, ◌/◌, ◌%◌, ◌<◌, ◌≤◌, Bool, true, false, ◌&&◌, ◌||◌, List, [], ◌∷◌}
use Rattle.std.proofs.Common.{length, flat_map, Some, refl, ap, ◌∙◌, arith, inl, inr, length-append}
use Rattle.std.proofs.lemmas.Bool.{cases_Bool, cases_eq, cond-false, and_parts, and_from}
use Rattle.std.proofs.lemmas.Bool.Decides.{nat_tests}
use Rattle.std.specs.Int.{is_in_range}
use Rattle.std.specs.List.{list_all}
use Rattle.ucd_table.proofs.Computing.{tables}
use Rattle.ucd_table.proofs.RangedFacts.{points_ok, Stepped-at_points}
use Rattle.ucd_normal.specs.declared.forms.Form.TheVariants.{Nfd, Nfc}
use Rattle.ucd_normal.specs.Decomposition.{decomposition, if_canonical, canonical_mapping, or_itself, expand, canonical_decomposition}
use Rattle.ucd_normal.proofs.CompositionLemmas.{is_empty}
use Rattle.ucd_normal.proofs.DecompositionLemmas.{decomposition_stepped}
use Rattle.unicode_normalization.specs.Compose.{primary_composite}
use Rattle.unicode_normalization.specs.Decompose.{decompose}
use Rattle.unicode_normalization.specs.Forms.{nfc, nfd, decomposed}
use Rattle.unicode_normalization.specs.Hangul.{is_syllable, decompose_hangul}
use Rattle.unicode_normalization.proofs.ComposeLemmas.{list_all-append}
use Rattle.unicode_normalization.proofs.DecomposeLemmas.{decompose-syllable, primary_composite-some, is_syllable-IsLv, is_syllable-IsLvt, length-from_decompose}
use Rattle.unicode_normalization.proofs.FormsLemmas.{nfd-nfc, normalize-Nfd, normalize-nil}
use Rattle.unicode_normalization.proofs.HangulLemmas.{is_syllable-true, decompose_hangul-two, decompose_hangul-three}
use Rattle.unicode_normalization.proofs.KeptLemmas.{list_all-normalize}
use Rattle.unicode_normalization.proofs.OrderLemmas.{length-canonical_order}

-- the code of a character that is no control character
abbrev pub is_plain_char : ℕ → Bool
is_plain_char c = (is_in_range 0x20 0x7E c || is_in_range 0xA0 0xD7FF c) || is_in_range 0xE000 0x10_FFFF c

all_mapped : (c : ℕ) → is_empty (if_canonical (decomposition c)) ≡ false → (is_plain_char c && list_all is_plain_char (if_canonical (decomposition c))) ≡ true
unfolding tables points_ok decomposition_stepped
all_mapped = Stepped-at_points decomposition decomposition_stepped (λ e. is_empty (if_canonical e))
    (λ c e. is_plain_char c && list_all is_plain_char (if_canonical e)) refl

or_itself-plain : (c : ℕ) (xs : List ℕ) → is_plain_char c ≡ true → list_all is_plain_char xs ≡ true → list_all is_plain_char (or_itself c xs) ≡ true
or_itself-plain c [] h all = and_from _ _ h refl
or_itself-plain c (x ∷ xs) h all = all

mapping-plain : (c : ℕ) → list_all is_plain_char (canonical_mapping c) ≡ true
mapping-plain c =
    elim (cases_Bool (is_empty (canonical_mapping c))) [
      | inl none ↦ empty-plain (canonical_mapping c) none
      | inr some ↦ (and_parts (is_plain_char c) (list_all is_plain_char (canonical_mapping c)) (all_mapped c some)).1
    ]
  where
    empty-plain : (xs : List ℕ) → is_empty xs ≡ true → list_all is_plain_char xs ≡ true
    empty-plain [] none = refl
    empty-plain (x ∷ xs) none = absurd (let z : false ≡ true = none in cc)

flat-plain : (f : ℕ → List ℕ) → ((x : ℕ) → is_plain_char x ≡ true → list_all is_plain_char (f x) ≡ true) → (xs : List ℕ) → list_all is_plain_char xs ≡ true
    → list_all is_plain_char (flat_map f xs) ≡ true
flat-plain f step [] all = refl
flat-plain f step (x ∷ xs) all =
    let h = and_parts (is_plain_char x) (list_all is_plain_char xs) all in list_all-append is_plain_char (f x) _ (step x h.0) (flat-plain f step xs h.1)

expand-plain : (depth c : ℕ) → list_all is_plain_char (expand canonical_mapping depth c) ≡ true
unfolding expand
expand-plain zero c = mapping-plain c
expand-plain (suc depth) c =
    flat-plain (λ x. or_itself x (expand canonical_mapping depth x)) (λ x h. or_itself-plain x (expand canonical_mapping depth x) h (expand-plain depth x))
    (canonical_mapping c) (mapping-plain c)

table-plain : (c : ℕ) → list_all is_plain_char (canonical_decomposition c) ≡ true
unfolding canonical_decomposition
table-plain c = expand-plain 3 c

jamo-plain : (c : ℕ) → 0x1100 ≤ c → c < 0x1200 → is_plain_char c ≡ true
jamo-plain c low high = grind (arith, nat_tests)

syllable-plain : (c : ℕ) → is_syllable c ≡ true → list_all is_plain_char (decompose_hangul c) ≡ true
syllable-plain c h =
    let range = is_syllable-true c h in
    let l = jamo-plain (0x1100 + (c - 0xAC00) / 588) (omega arith) (omega arith) in
    let v = jamo-plain (0x1161 + (c - 0xAC00) % 588 / 28) (omega arith) (omega arith) in
    let t = jamo-plain (0x11A7 + (c - 0xAC00) % 28) (omega arith) (omega arith) in
    elim (cases_eq ((c - 0xAC00) % 28) 0) [
      | inl two ↦ ap (list_all is_plain_char) (decompose_hangul-two c two) ∙ and_from _ _ l (and_from _ _ v refl)
      | inr three ↦ ap (list_all is_plain_char) (decompose_hangul-three c three) ∙ and_from _ _ l (and_from _ _ v (and_from _ _ t refl))
    ]

decompose-plain : (c : ℕ) → is_plain_char c ≡ true → list_all is_plain_char (decompose Nfc c) ≡ true
unfolding decompose
decompose-plain c h =
    elim (cases_Bool (is_syllable c)) [
      | inl syllable ↦ ap (list_all is_plain_char) (decompose-syllable Nfc c syllable) ∙ syllable-plain c syllable
      | inr other ↦ ap (list_all is_plain_char) (cond-false (is_syllable c) (decompose_hangul c) (or_itself c (canonical_decomposition c)) other)
          ∙ or_itself-plain c (canonical_decomposition c) h (table-plain c)
    ]

some-pair : (a b : ℕ) (xs : List ℕ) → xs ≡ a ∷ b ∷ [] → is_empty xs ≡ false
some-pair a b xs e = ap is_empty e

composite-plain : (a b c : ℕ) → is_plain_char a ≡ true → is_plain_char b ≡ true → primary_composite a b ≡ Some c → is_plain_char c ≡ true
composite-plain a b c first second h =
    elim (primary_composite-some a b c h) [
      | inl hangul ↦ elim hangul [ inl lv ↦ syllable (is_syllable-IsLv a b c lv) | inr lvt ↦ syllable (is_syllable-IsLvt a b c lvt) ]
      | inr table ↦ (and_parts (is_plain_char c) _ (all_mapped c (some-pair a b _ table.mapping))).0
    ]
  where
    syllable : is_syllable c ≡ true → is_plain_char c ≡ true
    syllable e = let range = is_syllable-true c e in grind (arith, nat_tests)

pub nfc-plain : (cs : List ℕ) → list_all is_plain_char cs ≡ true → list_all is_plain_char (nfc cs) ≡ true
nfc-plain cs all = list_all-normalize Nfc is_plain_char decompose-plain composite-plain cs all

-- ---- something is left

some-decomposed : (c : ℕ) (cs : List ℕ) → 1 ≤ length (nfd (c ∷ cs))
unfolding decomposed
some-decomposed c cs =
    let some = (length-from_decompose Nfd c (decompose Nfd c) refl).0 in
    omega (
      arith,
      ap length (normalize-Nfd (c ∷ cs)),
      length-canonical_order (flat_map (decompose Nfd) (c ∷ cs)),
      length-append (decompose Nfd c) (flat_map (decompose Nfd) cs),
    )

some-left : (xs ys : List ℕ) → nfd ys ≡ nfd xs → 1 ≤ length (nfd xs) → 1 ≤ length ys
some-left xs [] e some = absurd (omega (arith, ap length e, ap length (normalize-nil Nfd)))
some-left xs (y ∷ ys) e some = omega arith

pub nfc-some : (c : ℕ) (cs : List ℕ) → 1 ≤ length (nfc (c ∷ cs))
nfc-some c cs = some-left (c ∷ cs) (nfc (c ∷ cs)) (nfd-nfc (c ∷ cs)) (some-decomposed c cs)
