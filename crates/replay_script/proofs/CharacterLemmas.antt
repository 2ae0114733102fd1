-- Tests of texts, once it is known whether they are UTF-8.
use Rattle.std.proofs.Common.{◌≡◌, ℕ, List, length, [], ◌∷◌, get_or, ◌<◌, ◌==◌, nat_lt, Bool, true, false, not, ◌&&◌, refl, ap, ◌∙◌, inl, inr, arith}
use Rattle.std.proofs.lemmas.Bool.{cases_Bool, and_parts, and_from}
use Rattle.std.proofs.lemmas.Bool.Decides.{nat_tests}
use Rattle.std.proofs.lemmas.List.Sums.{AllPass-from_list_all}
use Rattle.std.proofs.lemmas.Str.{IsUtf8-from_is_utf8, IsUtf8-from_ascii, is_utf8-from_IsUtf8, chars-IsAscii}
use Rattle.std.proofs.lemmas.Str.Ascii.{IsAscii-from_all}
use Rattle.std.specs.List.{list_all}
use Rattle.std.specs.Str.{IsAscii, IsUtf8, chars, is_utf8}
use Rattle.replay_script.specs.Characters.{is_low, is_xml_char, is_xml, is_token_char, is_token}

not-utf8 : (text : List ℕ) → (IsUtf8 text → ⊥) → is_utf8 text ≡ false
not-utf8 text never = elim (cases_Bool (is_utf8 text)) [
  | inl holds ↦ absurd (never (IsUtf8-from_is_utf8 text holds))
  | inr fails ↦ fails
]

pub xml_read : (text : List ℕ) → IsUtf8 text → is_xml text ≡ list_all is_xml_char (chars text)
unfolding is_xml
xml_read text utf8 = rw (is_utf8-from_IsUtf8 text utf8) refl

pub xml_refused : (text : List ℕ) → (IsUtf8 text → ⊥) → is_xml text ≡ false
unfolding is_xml
xml_refused text never = rw (not-utf8 text never) refl

first-of : (a b : Bool) → (a && b) ≡ true → a ≡ true
first-of true b h = refl
first-of false b h = absurd (cc)

last-of : (a b : Bool) → (a && b) ≡ true → b ≡ true
last-of true b h = h
last-of false b h = absurd (cc)

pub xml_utf8 : (text : List ℕ) → is_xml text ≡ true → IsUtf8 text
unfolding is_xml
xml_utf8 text h = IsUtf8-from_is_utf8 text (first-of (is_utf8 text) (list_all is_xml_char (chars text)) h)

and-true : (a b : Bool) → (a && true && b) ≡ (a && b)
and-true true b = refl
and-true false b = refl

and-false : (a b : Bool) → (a && false && b) ≡ false
and-false true b = refl
and-false false b = refl

pub token_read : (text : List ℕ) → IsUtf8 text → is_token text ≡ (nat_lt 0 (length text) && list_all is_token_char (chars text))
unfolding is_token
token_read text utf8 = rw (is_utf8-from_IsUtf8 text utf8) (and-true (nat_lt 0 (length text)) (list_all is_token_char (chars text)))

pub token_refused : (text : List ℕ) → (IsUtf8 text → ⊥) → is_token text ≡ false
unfolding is_token
token_refused text never = rw (not-utf8 text never) (and-false (nat_lt 0 (length text)) (list_all is_token_char (chars text)))

pub token_utf8 : (text : List ℕ) → is_token text ≡ true → IsUtf8 text
unfolding is_token
token_utf8 text h =
    IsUtf8-from_is_utf8 text
    (last-of (nat_lt 0 (length text)) (is_utf8 text) (first-of (nat_lt 0 (length text) && is_utf8 text) (list_all is_token_char (chars text)) h))

-- Texts in ASCII.

weaker : (p q : ℕ → Bool) → ((c : ℕ) → p c ≡ true → q c ≡ true) → (cs : List ℕ) → list_all p cs ≡ true → list_all q cs ≡ true
weaker p q implies [] all = refl
weaker p q implies (c ∷ cs) all =
    let parts = and_parts (p c) (list_all p cs) all in
    and_from (q c) (list_all q cs) (implies c parts.0) (weaker p q implies cs parts.1)

low-ascii : (from b : ℕ) → is_low from b ≡ true → b < 128
low-ascii from b h = grind (arith, nat_tests)

all-ascii : (from : ℕ) (text : List ℕ) → list_all (is_low from) text ≡ true → IsAscii text
all-ascii from text all = IsAscii-from_all text (λ k d lt. low-ascii from (get_or text k d) (AllPass-from_list_all (is_low from) text all k d lt))

low-utf8 : (from : ℕ) (text : List ℕ) → list_all (is_low from) text ≡ true → is_utf8 text ≡ true
low-utf8 from text all = is_utf8-from_IsUtf8 text (IsUtf8-from_ascii text (all-ascii from text all))

low-chars : (from : ℕ) (p : ℕ → Bool) (text : List ℕ) → ((c : ℕ) → is_low from c ≡ true → p c ≡ true) → list_all (is_low from) text ≡ true
    → list_all p (chars text) ≡ true
low-chars from p text implies all = ap (list_all p) (chars-IsAscii text (all-ascii from text all)) ∙ weaker (is_low from) p implies text all

low-xml : (c : ℕ) → is_low 32 c ≡ true → is_xml_char c ≡ true
unfolding is_xml_char
low-xml c h = grind (arith, nat_tests)

low-token : (c : ℕ) → is_low 33 c ≡ true → is_token_char c ≡ true
unfolding is_token_char is_xml_char
low-token c h = grind (arith, nat_tests)

pub xml_low : (text : List ℕ) → list_all (is_low 32) text ≡ true → is_xml text ≡ true
unfolding is_xml
xml_low text all = and_from (is_utf8 text) _ (low-utf8 32 text all) (low-chars 32 is_xml_char text low-xml all)

some-is : (text : List ℕ) → nat_lt 0 (length text) ≡ not (length text == 0)
some-is text = grind (arith, nat_tests)

pub token_low : (text : List ℕ) → list_all (is_low 33) text ≡ true → is_token text ≡ not (length text == 0)
unfolding is_token
token_low text all =
    rw (low-utf8 33 text all, low-chars 33 is_token_char text low-token all)
    (and-true (nat_lt 0 (length text)) true ∙ (and-last (nat_lt 0 (length text)) ∙ some-is text))
  where
    and-last : (b : Bool) → (b && true) ≡ b
    and-last true = refl
    and-last false = refl
