-- Names of a text: where they lead, and what they tell.
use Rattle.std.proofs.Common.{◌≡◌, ℕ, zero, suc, ◌<◌, ◌≤◌, inl, inr, List, [], ◌∷◌, ◌++◌, map, refl, sym, ap, ◌∙◌, subst, Bool, true, false, not, arith}
use Rattle.std.proofs.lemmas.Bool.{cond-true, cases_lt, and_parts}
use Rattle.std.proofs.lemmas.Bool.Decides.{nat_tests}
use Rattle.std.specs.List.{AllByRecursion}
use Rattle.std.specs.Prelude.{encode_utf8, encode_utf8_all, ◌==◌, ◌||◌, ◌&&◌, nat_le}
use Rattle.stream_lex.specs.declared.Token.{Token}
use Rattle.stream_lex.specs.declared.kinds.Kind.{Kind}
use Rattle.stream_lex.specs.declared.stages.NameOwner.{NameOwner}
use Rattle.stream_lex.specs.declared.stages.NameOwner.TheVariants.{StartTag, EndTag, Attribute}
use Rattle.stream_lex.specs.declared.stages.Half.{Half}
use Rattle.stream_lex.specs.declared.stages.Half.TheVariants.{Prefix, Local}
use Rattle.stream_lex.specs.declared.stages.Stage.{Stage}
use Rattle.stream_lex.specs.declared.stages.Stage.TheVariants as stage
use Rattle.stream_lex.specs.declared.characters.Allowed.TheVariants as allowed
use Rattle.stream_lex.specs.grammar.Classes.{has_between, class_of, name_starts, name_characters}
use Rattle.stream_lex.specs.grammar.Kinds.{ascii_kind, is_name_start, is_name_further}
use Rattle.stream_lex.specs.grammar.Grammar.{first_name_token, next_name_token, spread}
use Rattle.stream_lex.specs.machine.Machine.{yields, in_name, in_tag, ascii, allowed_at, voice, voiced, by_byte, through}
use Rattle.stream_lex.specs.machine.Turns.{settled}
use Rattle.stream_lex.specs.machine.Live.{is_live}
use Rattle.stream_lex.proofs.Lists.{false-true}
use Rattle.stream_lex.proofs.Spans.{encode1}
use Rattle.stream_grammar.specs.grammar.Proper.{starts_name, continues_name, IsNcName}
use Rattle.stream_laws.proofs.RoundTripRuns.{Runs, runs-none, runs-then, runs-one, runs-told, between, ascii-turn, wide-runs, high-first}

-- A test of all numbers below one.

abbrev pub all_under : ℕ → (ℕ → Bool) → Bool
all_under zero p = true
all_under (suc n) p = p n && all_under n p

pub under : (n : ℕ) (p : ℕ → Bool) → all_under n p ≡ true → (c : ℕ) → c < n → p c ≡ true
under zero p h c l = absurd (omega arith)
under (suc n) p h c l = elim (cases_lt c n) [
  | inl k ↦ under n p (and_parts (p n) (all_under n p) h).1 c k
  | inr k ↦ let same : n ≡ c = omega arith in subst (λ (x : ℕ). p x ≡ true) same (and_parts (p n) (all_under n p) h).0
]

pub or-right : (s t : Bool) → s ≡ false → (s || t) ≡ true → t ≡ true
or-right true t e h = false-true (sym e)
or-right false t e h = h

pub implied : (s t : Bool) → (not s || t) ≡ true → s ≡ true → t ≡ true
implied true t h e = h
implied false t h e = false-true e

-- Characters of names below 128.

name_low : ℕ → Bool
name_low c = (not (starts_name c) || is_name_start (ascii_kind c))
    && ((not (continues_name c) || is_name_further (ascii_kind c)) && (not (continues_name c) || not (c == 13)))

names-low : all_under 128 name_low ≡ true
unfolding name_low ascii_kind name_starts name_characters
names-low = refl

pub not-is : (t : Bool) → not t ≡ true → t ≡ false
not-is true h = false-true h
not-is false h = refl

record Low (c : ℕ) : Type 0 where
  starts : starts_name c ≡ true → is_name_start (ascii_kind c) ≡ true
  goes_on : continues_name c ≡ true → is_name_further (ascii_kind c) ≡ true
  no_return : continues_name c ≡ true → (c == 13) ≡ false

low-parts : (c : ℕ) → name_low c ≡ true → Low c
unfolding name_low
low-parts c h =
    let (a, b) = and_parts (not (starts_name c) || is_name_start (ascii_kind c)) _ h in
    let (d, e) = and_parts (not (continues_name c) || is_name_further (ascii_kind c)) (not (continues_name c) || not (c == 13)) b in record {
      starts = implied (starts_name c) (is_name_start (ascii_kind c)) a;
      goes_on = implied (continues_name c) (is_name_further (ascii_kind c)) d;
      no_return = λ k. not-is (c == 13) (implied (continues_name c) (not (c == 13)) e k);
    }

low-name : (c : ℕ) → c < 128 → Low c
low-name c l = low-parts c (under 128 name_low names-low c l)

-- a name's first character may stand further on
pub start-continues : (c : ℕ) → starts_name c ≡ true → continues_name c ≡ true
start-continues c h = subst (λ (t : Bool). (t || ((c == 45) || ((c == 46) || ((nat_le 48 c && nat_le c 57) || has_between name_characters c c)))) ≡ true)
    (sym h) refl

-- Characters of names from 128 on.

above : (low high c : ℕ) → high < c → (nat_le low c && nat_le c high) ≡ false
above low high c h = grind (arith, nat_tests)

differs : (d c : ℕ) → d < c → (c == d) ≡ false
differs d c h = grind (arith, nat_tests)

wide-start : (c : ℕ) → 128 ≤ c → starts_name c ≡ true → has_between name_starts c c ≡ true
wide-start c h e =
    or-right (nat_le 97 c && nat_le c 122) _ (above 97 122 c (omega arith))
    (or-right (c == 95) _ (differs 95 c (omega arith)) (or-right (nat_le 65 c && nat_le c 90) _ (above 65 90 c (omega arith)) e))

pub or-later : (s t : Bool) → t ≡ true → (s || t) ≡ true
or-later true t e = refl
or-later false t e = e

start-character : (c : ℕ) → has_between name_starts c c ≡ true → has_between name_characters c c ≡ true
unfolding name_characters
start-character c h = or-later (nat_le 183 c && nat_le c 183) _
    (or-later (nat_le 768 c && nat_le c 879) _ (or-later (nat_le 8255 c && nat_le c 8256) (has_between name_starts c c) h))

wide-further : (c : ℕ) → 128 ≤ c → continues_name c ≡ true → has_between name_characters c c ≡ true
wide-further c h e = by (starts_name c) refl e
  where
    by : (t : Bool) → starts_name c ≡ t → (t || ((c == 45) || ((c == 46) || ((nat_le 48 c && nat_le c 57) || has_between name_characters c c)))) ≡ true
        → has_between name_characters c c ≡ true
    by true f k = start-character c (wide-start c h f)
    by false f k = or-right (nat_le 48 c && nat_le c 57) _ (above 48 57 c (omega arith))
        (or-right (c == 46) _ (differs 46 c (omega arith)) (or-right (c == 45) _ (differs 45 c (omega arith)) k))

-- A character in a name.

pub spread-map : (f : ℕ → Token) (bs : List ℕ) → spread f f bs ≡ map f bs
spread-map f [] = refl
spread-map f (b ∷ bs) = refl

in_name-turn : (r : NameOwner) (h : Half) (k : Kind) (c : ℕ) → is_name_further k ≡ true
    → ascii (stage.Name r h) k c ≡ yields (next_name_token r c ∷ []) (stage.Name r h)
unfolding ascii in_name
in_name-turn r h k c e = cond-true _ _ _ e

live-name : (r : NameOwner) (h : Half) → is_live (between (stage.Name r h)) ≡ true
unfolding is_live
live-name r h = refl

wide-name_runs : (r : NameOwner) (h : Half) (c : ℕ) → 128 ≤ c → has_between name_characters c c ≡ true
    → Runs (between (stage.Name r h)) (encode_utf8 c) (between (stage.Name r h)) (map (next_name_token r) (encode_utf8 c))
unfolding allowed_at voice through
wide-name_runs r h c l e = runs-told (spread-map (next_name_token r) (encode_utf8 c)) (wide-runs (stage.Name r h) c (live-name r h) l e)

low-name_runs : (r : NameOwner) (h : Half) (c : ℕ) → c < 128 → continues_name c ≡ true
    → Runs (between (stage.Name r h)) (c ∷ []) (between (stage.Name r h)) (next_name_token r c ∷ [])
low-name_runs r h c l e =
    let low : Low c = low-name c l in
    runs-one (ascii-turn (stage.Name r h) c l (low.no_return e) ∙ ap (settled false) (in_name-turn r h (ascii_kind c) c (low.goes_on e)))

character-runs : (r : NameOwner) (h : Half) (c : ℕ) → continues_name c ≡ true
    → Runs (between (stage.Name r h)) (encode_utf8 c) (between (stage.Name r h)) (map (next_name_token r) (encode_utf8 c))
character-runs r h c e = elim (cases_lt c 128) [
  | inl l ↦ subst (λ (l : List ℕ). Runs (between (stage.Name r h)) l (between (stage.Name r h)) (map (next_name_token r) l)) (sym (encode1 c l))
      (low-name_runs r h c l e)
  | inr l ↦ wide-name_runs r h c l (wide-further c l e)
]

map-more : (f : ℕ → Token) (xs ys : List ℕ) → map f (xs ++ ys) ≡ map f xs ++ map f ys
map-more f [] ys = refl
map-more f (x ∷ xs) ys = ap (λ (l : List Token). f x ∷ l) (map-more f xs ys)

characters-run : (r : NameOwner) (h : Half) (cs : List ℕ) → AllByRecursion (λ c. continues_name c ≡ true) cs
    → Runs (between (stage.Name r h)) (encode_utf8_all cs) (between (stage.Name r h)) (map (next_name_token r) (encode_utf8_all cs))
characters-run r h [] e = runs-none
characters-run r h (c ∷ cs) e =
    runs-told (sym (map-more (next_name_token r) (encode_utf8 c) (encode_utf8_all cs))) (runs-then (character-runs r h c e.0) (characters-run r h cs e.1))

-- Where a name begins: what its first byte tells, and where it leads.

pub record Begins (s : Stage) (r : NameOwner) (f : ℕ → Token) (h : Half) : Type 0 where
  low : (k : Kind) (c : ℕ) → is_name_start k ≡ true → ascii s k c ≡ yields (f c ∷ []) (stage.Name r h)
  wide : allowed_at s ≡ allowed.NameStart
  told : voice s ≡ by_byte f (next_name_token r)
  to : through s ≡ stage.Name r h
  live : is_live (between s) ≡ true

pub less-begins : Begins stage.Less StartTag (first_name_token StartTag) Prefix
unfolding ascii in_tag allowed_at voice through is_live
less-begins = record { low = λ k c e. cond-true _ _ _ e; wide = refl; told = refl; to = refl; live = refl }

pub mark-begins : Begins stage.EndTagMark EndTag (first_name_token EndTag) Prefix
unfolding ascii in_tag allowed_at voice through is_live
mark-begins = record { low = λ k c e. cond-true _ _ _ e; wide = refl; told = refl; to = refl; live = refl }

pub attribute-begins : Begins stage.InTag Attribute (first_name_token Attribute) Prefix
unfolding ascii in_tag allowed_at voice through is_live
attribute-begins = record { low = λ k c e. cond-true _ _ _ e; wide = refl; told = refl; to = refl; live = refl }

pub colon-begins : (r : NameOwner) → Begins (stage.Colon r) r (next_name_token r) Local
unfolding ascii in_tag allowed_at voice through is_live
colon-begins r = record { low = λ k c e. cond-true _ _ _ e; wide = refl; told = refl; to = refl; live = refl }

first-runs : (s : Stage) (r : NameOwner) (f : ℕ → Token) (h : Half) (c : ℕ) → Begins s r f h → starts_name c ≡ true
    → Runs (between s) (encode_utf8 c) (between (stage.Name r h)) (spread f (next_name_token r) (encode_utf8 c))
first-runs s r f h c b e = elim (cases_lt c 128) [
  | inl l ↦ subst (λ (l : List ℕ). Runs (between s) l (between (stage.Name r h)) (spread f (next_name_token r) l)) (sym (encode1 c l))
      (let low : Low c = low-name c l in runs-one (ascii-turn s c l (low.no_return (start-continues c e))
      ∙ ap (settled false) (b.low (ascii_kind c) c (low.starts e))))
  | inr l ↦ runs-told (ap (λ v. voiced v c) b.told) (subst (λ (t : Stage). Runs (between s) (encode_utf8 c) (between t) (voiced (voice s) c)) b.to
      (wide-runs s c b.live l (subst (λ a. has_between (class_of a) c c ≡ true) (sym b.wide) (wide-start c l e))))
]

pub spread-more : (f g : ℕ → Token) (xs ys : List ℕ) (b : ℕ) (zs : List ℕ) → xs ≡ b ∷ zs → spread f g xs ++ map g ys ≡ spread f g (xs ++ ys)
spread-more f g [] ys b zs e = absurd (let bad : [] ≡ b ∷ zs = e in cc)
spread-more f g (x ∷ xs) ys b zs e = ap (λ (l : List Token). f x ∷ l) (sym (map-more g xs ys))

pub first-byte : (c : ℕ) → (b : ℕ) × (zs : List ℕ) × (encode_utf8 c ≡ b ∷ zs)
first-byte c = elim (cases_lt c 128) [
  | inl l ↦ (c, [], encode1 c l)
  | inr l ↦ let (b, zs, e, k) = high-first c l in (b, zs, e)
]

pub name-runs : (s : Stage) (r : NameOwner) (f : ℕ → Token) (h : Half) (bytes : List ℕ) → Begins s r f h → IsNcName bytes
    → Runs (between s) bytes (between (stage.Name r h)) (spread f (next_name_token r) bytes)
name-runs s r f h bytes b (c, cs, is, start, more) =
    let (d, zs, e) = first-byte c in
    subst (λ (l : List ℕ). Runs (between s) l (between (stage.Name r h)) (spread f (next_name_token r) l)) is
    (runs-told (spread-more f (next_name_token r) (encode_utf8 c) (encode_utf8_all cs) d zs e)
    (runs-then (first-runs s r f h c b start) (characters-run r h cs more)))
