-- Plain bytes and characters: put together, and as texts.
use Rattle.std.proofs.Common.{◌≡◌, ℕ, ◌+◌, ◌-◌, ◌<◌, inl, inr, List, [], ◌∷◌, ◌++◌, length, take, drop, append_assoc, refl, sym, ap, ◌∙◌, subst}
use Rattle.std.proofs.Common.{arith, Bool, true, ◌&&◌, ◌||◌, nat_lt, nat_le, encode_utf8, encode_utf8_all}
use Rattle.std.specs.Char.{IsScalar}
use Rattle.std.specs.Str.{IsUtf8, all_scalars}
use Rattle.std.proofs.lemmas.Bool.{and_parts, and_from, or_cases, or_left, or_right, ltb-true}
use Rattle.std.proofs.lemmas.List.{take_rest}
use Rattle.std.proofs.Math.Seq.{take-add}
use lib.Utf8.{low_scalar}
use Rattle.stream_lex.specs.declared.characters.Allowed.TheVariants as allowed
use Rattle.stream_lex.specs.declared.stages.Quote.{Quote}
use Rattle.stream_lex.specs.declared.stages.Quote.TheVariants.{Double, Single}
use Rattle.stream_lex.proofs.Classing.{class-scalar}
use Rattle.stream_lex.proofs.Spans.{encode1}
use Rattle.stream_frames.specs.Runs.{is_plain_word, is_plain_value, is_wide, is_word_character, is_value_character, are_plain, Spells}

word-low : (b : ℕ) → is_plain_word b ≡ true → nat_lt b 128 ≡ true
word-low b h = (and_parts (nat_le 32 b) (nat_lt b 128) (and_parts (nat_le 32 b && nat_lt b 128) _ h).0).1

value-low : (q : Quote) (b : ℕ) → is_plain_value q b ≡ true → nat_lt b 128 ≡ true
value-low Double b h = (and_parts (nat_le 32 b) (nat_lt b 128) (and_parts (nat_le 32 b && nat_lt b 128) _ h).0).1
value-low Single b h = (and_parts (nat_le 32 b) (nat_lt b 128) (and_parts (nat_le 32 b && nat_lt b 128) _ h).0).1

-- Put together.

pub none_spelt : (ok : ℕ → Bool) (bytes : List ℕ) → Spells ok (take 0 bytes)
none_spelt ok bytes = record { text = []; plain = refl; bytes = refl }

plain-both : (ok : ℕ → Bool) (cs ds : List ℕ) → are_plain ok cs ≡ true → are_plain ok ds ≡ true → are_plain ok (cs ++ ds) ≡ true
plain-both ok [] ds h k = k
plain-both ok (c ∷ cs) ds h k = let p = and_parts (ok c) (are_plain ok cs) h in and_from _ _ p.0 (plain-both ok cs ds p.1 k)

encode-both : (cs ds : List ℕ) → encode_utf8_all (cs ++ ds) ≡ encode_utf8_all cs ++ encode_utf8_all ds
encode-both [] ds = refl
encode-both (c ∷ cs) ds =
    ap (λ (l : List ℕ). encode_utf8 c ++ l) (encode-both cs ds) ∙ sym (append_assoc (encode_utf8 c) (encode_utf8_all cs) (encode_utf8_all ds))

both-spelt : (ok : ℕ → Bool) (xs ys : List ℕ) → Spells ok xs → Spells ok ys → Spells ok (xs ++ ys)
both-spelt ok xs ys s t = record {
  text = s.text ++ t.text;
  plain = plain-both ok s.text t.text s.plain t.plain;
  bytes = encode-both s.text t.text ∙ (ap (λ (l : List ℕ). l ++ encode_utf8_all t.text) s.bytes ∙ ap (λ (l : List ℕ). xs ++ l) t.bytes);
}

-- the first bytes of the rest of a piece, which is told as a slice of it
abbrev next : List ℕ → ℕ → ℕ → List ℕ
next bs i n = take n (take (length bs - i) (drop i bs))

next-spelt : (ok : ℕ → Bool) (bs : List ℕ) (i n : ℕ) → Spells ok (take i bs) → Spells ok (next bs i n) → Spells ok (take (i + n) bs)
next-spelt ok bs i n s t =
    let more : Spells ok (take n (drop i bs)) = subst (λ (xs : List ℕ). Spells ok (take n xs)) (take_rest bs i) t in
    subst (Spells ok) (sym (take-add i n bs)) (both-spelt ok (take i bs) (take n (drop i bs)) s more)

plain-implied : (ok more : ℕ → Bool) (cs : List ℕ) → ((c : ℕ) → ok c ≡ true → more c ≡ true) → are_plain ok cs ≡ true → are_plain more cs ≡ true
plain-implied ok more [] each h = refl
plain-implied ok more (c ∷ cs) each h = let p = and_parts (ok c) (are_plain ok cs) h in and_from _ _ (each c p.0) (plain-implied ok more cs each p.1)

low-bytes : (ok : ℕ → Bool) (xs : List ℕ) → ((b : ℕ) → ok b ≡ true → nat_lt b 128 ≡ true) → are_plain ok xs ≡ true → encode_utf8_all xs ≡ xs
low-bytes ok [] low h = refl
low-bytes ok (x ∷ xs) low h =
    let p = and_parts (ok x) (are_plain ok xs) h in
    ap (λ (l : List ℕ). l ++ encode_utf8_all xs) (encode1 x (ltb-true x 128 (low x p.0))) ∙ ap (λ (l : List ℕ). x ∷ l) (low-bytes ok xs low p.1)

abbrev or_wide : (ℕ → Bool) → ℕ → Bool
or_wide ok c = ok c || is_wide c

low-spelt : (ok : ℕ → Bool) (xs : List ℕ) → ((b : ℕ) → ok b ≡ true → nat_lt b 128 ≡ true) → are_plain ok xs ≡ true → Spells (or_wide ok) xs
low-spelt ok xs low h = record { text = xs; plain = plain-implied ok (or_wide ok) xs (λ c e. or_left _ _ e) h; bytes = low-bytes ok xs low h }

wide-spelt : (ok : ℕ → Bool) (xs : List ℕ) → Spells is_wide xs → Spells (or_wide ok) xs
wide-spelt ok xs s = record { text = s.text; plain = plain-implied is_wide (or_wide ok) s.text (λ c e. or_right _ _ e) s.plain; bytes = s.bytes }

pub words_then : (bs : List ℕ) (i n : ℕ) → Spells is_word_character (take i bs)
    → are_plain is_plain_word (take n (take (length bs - i) (drop i bs))) ≡ true → Spells is_word_character (take (i + n) bs)
words_then bs i n s h = next-spelt is_word_character bs i n s (low-spelt is_plain_word (next bs i n) word-low h)

pub wide_word_then : (bs : List ℕ) (i n : ℕ) → Spells is_word_character (take i bs)
    → Spells is_wide (take n (take (length bs - i) (drop i bs))) → Spells is_word_character (take (i + n) bs)
wide_word_then bs i n s t = next-spelt is_word_character bs i n s (wide-spelt is_plain_word (next bs i n) t)

pub value_then : (q : Quote) (bs : List ℕ) (i n : ℕ) → Spells (is_value_character q) (take i bs)
    → are_plain (is_plain_value q) (take n (take (length bs - i) (drop i bs))) ≡ true → Spells (is_value_character q) (take (i + n) bs)
value_then q bs i n s h = next-spelt (is_value_character q) bs i n s (low-spelt (is_plain_value q) (next bs i n) (value-low q) h)

pub wide_value_then : (q : Quote) (bs : List ℕ) (i n : ℕ) → Spells (is_value_character q) (take i bs)
    → Spells is_wide (take n (take (length bs - i) (drop i bs))) → Spells (is_value_character q) (take (i + n) bs)
wide_value_then q bs i n s t = next-spelt (is_value_character q) bs i n s (wide-spelt (is_plain_value q) (next bs i n) t)

-- As texts.

-- a character that is plain below 128 or allowed from 128 on
mixed-scalar : (ok : ℕ → Bool) → ((b : ℕ) → ok b ≡ true → nat_lt b 128 ≡ true) → (c : ℕ) → (ok c || is_wide c) ≡ true → IsScalar c
mixed-scalar ok low c h = elim (or_cases (ok c) (is_wide c) h) [
  | inl plain ↦ low_scalar c (let small : c < 128 = ltb-true c 128 (low c plain) in omega arith)
  | inr wide ↦ class-scalar allowed.Any c wide
]

plain-scalars : (ok : ℕ → Bool) (cs : List ℕ) → ((c : ℕ) → ok c ≡ true → IsScalar c) → are_plain ok cs ≡ true → all_scalars cs ≡ true
plain-scalars ok [] each h = refl
plain-scalars ok (c ∷ cs) each h = let p = and_parts (ok c) (are_plain ok cs) h in and_from _ _ (each c p.0) (plain-scalars ok cs each p.1)

spelt-utf8 : (ok : ℕ → Bool) (xs : List ℕ) → ((c : ℕ) → ok c ≡ true → IsScalar c) → Spells ok xs → IsUtf8 xs
spelt-utf8 ok xs each spelt = (spelt.text, (plain-scalars ok spelt.text each spelt.plain, spelt.bytes))

pub word_utf8 : (xs : List ℕ) → Spells is_word_character xs → IsUtf8 xs
word_utf8 xs spelt = spelt-utf8 is_word_character xs (mixed-scalar is_plain_word word-low) spelt

pub value_utf8 : (q : Quote) (xs : List ℕ) → Spells (is_value_character q) xs → IsUtf8 xs
value_utf8 q xs spelt = spelt-utf8 (is_value_character q) xs (mixed-scalar (is_plain_value q) (value-low q)) spelt
