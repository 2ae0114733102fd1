-- What tokens tell of names and characters: each name is whole where it ends, and each character is one of XML.
use Rattle.std.proofs.Common.{◌≡◌, ℕ, zero, suc, ◌<◌, ◌⊎◌, inl, inr, List, [], ◌∷◌, ◌++◌, map, refl, sym, ap, ◌∙◌}
use Rattle.std.proofs.Common.{subst, append_assoc, append-nil, Bool, true, false, not, arith}
use Rattle.std.proofs.lemmas.Bool.{cond_both, ltb-true, eqb-true, and_parts}
use Rattle.std.proofs.lemmas.Bool.Decides.{nat_tests}
use Rattle.std.specs.List.{AllByRecursion}
use Rattle.std.specs.Prelude.{encode_utf8, encode_utf8_all, ◌||◌, ◌&&◌, ◌==◌, nat_lt, nat_le, if◌then◌else◌}
use Rattle.stream_lex.specs.declared.Token.{Token}
use Rattle.stream_lex.specs.declared.Token.TheVariants as token
use Rattle.stream_lex.specs.declared.LexFault.{LexFault}
use Rattle.stream_lex.specs.declared.kinds.Kind.{Kind}
use Rattle.stream_lex.specs.declared.kinds.Kind.TheVariants as kinds
use Rattle.stream_lex.specs.declared.stages.NameOwner.{NameOwner}
use Rattle.stream_lex.specs.declared.stages.NameOwner.TheVariants.{StartTag, EndTag, Attribute}
use Rattle.stream_lex.specs.declared.stages.Base.{Base}
use Rattle.stream_lex.specs.grammar.Classes.{CharacterClass, has_between, is_xml, name_starts, name_characters, characters}
use Rattle.stream_lex.specs.grammar.Kinds.{kind, ascii_kind, wide_kind, is_kind, is_wide, is_name_start, is_name_further}
use Rattle.stream_lex.specs.grammar.Kinds.{is_wide_name_start, is_wide_name_further, is_allowed}
use Rattle.stream_lex.specs.grammar.Expressions.{Sign, says, refuses, all_said, Expression, silent_symbol}
use Rattle.stream_lex.specs.grammar.Expressions.{symbol, digits, concat, union, star, Times, IsText}
use Rattle.stream_lex.specs.grammar.Grammar.{first_name_token, next_name_token, spread, a, optional, tells, told, refused, optional_space, word}
use Rattle.stream_lex.specs.grammar.Grammar.{first_character, later_first, further_character, local, colon, qualified_name}
use Rattle.stream_lex.proofs.Lists.{false-true, true-false, said-append}
use Rattle.stream_lex.proofs.Spans.{encode1}
use Rattle.stream_grammar.specs.grammar.Proper.{starts_name, continues_name, IsNcName}
use Rattle.stream_laws.proofs.RoundTripNames.{all_under, under, implied, start-continues, or-later, spread-more, spread-map, first-byte}
use Rattle.stream_laws.proofs.RoundTripTags.{IsQName}

-- The name so far: none, or a whole one.
abbrev pub EndsName : List ℕ → Type 0
EndsName n = (n ≡ []) ⊎ IsQName n

-- what holds where a token comes, after this much of a name
abbrev pub may : List ℕ → Token → Type 0
may n (token.AttrOpens b) = EndsName n
may n token.ValueOpens = EndsName n
may n (token.TagEnds e) = EndsName n
may n token.CloseEnds = EndsName n
may n (token.Value c) = is_xml c ≡ true
may n (token.Word c) = is_xml c ≡ true
may n t = Unit {0}

abbrev pub name_after : List ℕ → Token → List ℕ
name_after n (token.TagOpens b) = b ∷ []
name_after n (token.CloseOpens b) = b ∷ []
name_after n (token.AttrOpens b) = b ∷ []
name_after n (token.NameByte b) = n ++ b ∷ []
name_after n (token.AttrByte b) = n ++ b ∷ []
name_after n t = []

-- up to what is refused
abbrev pub Checks : List ℕ → List Sign → List ℕ → Type 0
Checks n [] m = n ≡ m
Checks n (says t ∷ ms) m = may n t × Checks (name_after n t) ms m
Checks n (refuses f ∷ ms) m = Unit {0}

pub checks-append : (n m k : List ℕ) (us vs : List Sign) → Checks n us m → Checks m vs k → Checks n (us ++ vs) k
checks-append n m k [] vs a b = subst (λ (x : List ℕ). Checks x vs k) (sym a) b
checks-append n m k (says t ∷ us) vs a b = (a.0, checks-append (name_after n t) m k us vs a.1 b)
checks-append n m k (refuses f ∷ us) vs a b = tt

-- The texts of an expression, which begin and end at no name or at a whole one.
abbrev pub Pass : Expression → Type 0
Pass p = (n : List ℕ) → EndsName n → (cs : List ℕ) (ms : List Sign) → IsText p cs ms → (m : List ℕ) × EndsName m × Checks n ms m

pub pass-silent : (P : Kind → ℕ → Bool) → Pass (silent_symbol P)
unfolding IsText
pass-silent P = λ n e cs ms (c, is, f, g). (n, e, subst (λ (l : List Sign). Checks n l n) (sym g) refl)

pub pass-concat : (p q : Expression) → Pass p → Pass q → Pass (concat p q)
unfolding IsText
pass-concat p q a b =
    λ n e cs ms (xs, us, ys, vs, l, r, f, g).
    let (m, h, x) = a n e xs us l in
    let (k, i, y) = b m h ys vs r in
    (k, i, subst (λ (z : List Sign). Checks n z k) (sym g) (checks-append n m k us vs x y))

pub pass-union : (p q : Expression) → Pass p → Pass q → Pass (union p q)
unfolding IsText
pass-union p q a b = λ n e cs ms s. elim s [ inl l ↦ a n e cs ms l | inr r ↦ b n e cs ms r ]

pass-times : (p : Expression) (k : ℕ) (n : List ℕ) (cs : List ℕ) (ms : List Sign) → Pass p → EndsName n → Times (IsText p) k cs ms
    → (m : List ℕ) × EndsName m × Checks n ms m
pass-times p zero n cs ms a e (f, g) = (n, e, subst (λ (l : List Sign). Checks n l n) (sym g) refl)
pass-times p (suc k) n cs ms a e (c, xs, us, ys, vs, l, r, f, g) =
    let (m, h, x) = a n e (c ∷ xs) us l in
    let (j, i, y) = pass-times p k m ys vs a h r in
    (j, i, subst (λ (z : List Sign). Checks n z j) (sym g) (checks-append n m j us vs x y))

pub pass-star : (p : Expression) → Pass p → Pass (star p)
unfolding IsText
pass-star p a = λ n e cs ms (k, t). pass-times p k n cs ms a e t

abbrev Told : (ℕ → List Token) → ℕ → Type 0
Told f c = (n : List ℕ) → EndsName n → (m : List ℕ) × EndsName m × Checks n (all_said (f c)) m

pub pass-tells : (P : Kind → Bool) (f : ℕ → List Token) → ((c : ℕ) → P (kind c) ≡ true → Told f c) → Pass (tells P f)
unfolding IsText
pass-tells P f h =
    λ n e cs ms (c, is, x, y).
    let (m, i, k) = h c is n e in (m, i, subst (λ (l : List Sign). Checks n l m) (sym y) k)

pub pass-told : (k : Kind) (t : Token) → ((n : List ℕ) → EndsName n → may n t × (name_after n t ≡ [])) → Pass (told k t)
pass-told k t h = pass-tells (is_kind k) (λ c. t ∷ []) (λ c is n e. ([], inl refl, h n e))

pub pass-refused_symbol : (P : Kind → ℕ → Bool) (f : LexFault) → Pass (symbol P (λ c. refuses f ∷ []))
unfolding IsText
pass-refused_symbol P f = λ n e cs ms (c, is, x, y). (n, e, subst (λ (l : List Sign). Checks n l n) (sym y) tt)

pub pass-refused : (P : Kind → Bool) → Pass (refused P)
unfolding IsText
pass-refused P = λ n e cs ms (c, is, x, y). (n, e, subst (λ (l : List Sign). Checks n l n) (sym y) tt)

pub pass-spaces : Pass optional_space
pass-spaces = pass-star (a kinds.Space) (pass-silent _)

pub pass-word : (ds : List ℕ) (q : Expression) → Pass q → Pass (word ds q)
pass-word [] q a = a
pass-word (d ∷ ds) q a = pass-concat _ (word ds q) (pass-silent _) (pass-word ds q a)

pub pass-digits : (base : Base) (f : ℕ → List Token) → ((c : ℕ) → is_xml c ≡ true → Told f c) → Pass (digits base (λ c. all_said (f c)))
unfolding IsText
pass-digits base f h =
    λ n e cs ms (d, ds, is, x, (es, semicolon, are, k, y, xml, z)).
    let (m, i, j) = h _ xml n e in (m, i, subst (λ (l : List Sign). Checks n l m) (sym z) j)

-- Kinds and classes.

starts_low : ℕ → Bool
starts_low c = not (is_name_start (ascii_kind c) || is_wide_name_start (ascii_kind c)) || starts_name c

further_low : ℕ → Bool
further_low c = not (is_name_further (ascii_kind c) || is_wide_name_further (ascii_kind c)) || continues_name c

allowed_low : ℕ → Bool
allowed_low c = not (is_allowed (ascii_kind c)) || is_xml c

all-starts_low : all_under 128 starts_low ≡ true
unfolding starts_low ascii_kind name_starts name_characters
all-starts_low = refl

all-further_low : all_under 128 further_low ≡ true
unfolding further_low ascii_kind name_starts name_characters
all-further_low = refl

all-allowed_low : all_under 128 allowed_low ≡ true
unfolding allowed_low ascii_kind
all-allowed_low = refl

wide-starts : (c : ℕ) → (is_name_start (wide_kind c) || is_wide_name_start (wide_kind c)) ≡ true → starts_name c ≡ true
unfolding wide_kind
wide-starts c =
    cond_both (has_between name_starts c c) kinds.WideStart
    (if has_between name_characters c c then kinds.WideName else (if has_between characters c c then kinds.WideOther else kinds.WideRefused))
    (λ (k : Kind). (is_name_start k || is_wide_name_start k) ≡ true → starts_name c ≡ true)
    (λ e h. or-later (nat_le 65 c && nat_le c 90) _ (or-later (c == 95) _ (or-later (nat_le 97 c && nat_le c 122) (has_between name_starts c c) e)))
    (λ e. cond_both (has_between name_characters c c) kinds.WideName (if has_between characters c c then kinds.WideOther else kinds.WideRefused)
    (λ (k : Kind). (is_name_start k || is_wide_name_start k) ≡ true → starts_name c ≡ true) (λ f h. false-true h)
    (λ f. cond_both (has_between characters c c) kinds.WideOther kinds.WideRefused (λ (k : Kind). (is_name_start k || is_wide_name_start k) ≡ true
    → starts_name c ≡ true) (λ g h. false-true h) (λ g h. false-true h)))

wide-further : (c : ℕ) → (is_name_further (wide_kind c) || is_wide_name_further (wide_kind c)) ≡ true → continues_name c ≡ true
unfolding wide_kind
wide-further c =
    cond_both (has_between name_starts c c) kinds.WideStart
    (if has_between name_characters c c then kinds.WideName else (if has_between characters c c then kinds.WideOther else kinds.WideRefused))
    (λ (k : Kind). (is_name_further k || is_wide_name_further k) ≡ true → continues_name c ≡ true)
    (λ e h. start-continues c
    (or-later (nat_le 65 c && nat_le c 90) _ (or-later (c == 95) _ (or-later (nat_le 97 c && nat_le c 122) (has_between name_starts c c) e))))
    (λ e. cond_both (has_between name_characters c c) kinds.WideName (if has_between characters c c then kinds.WideOther else kinds.WideRefused)
    (λ (k : Kind). (is_name_further k || is_wide_name_further k) ≡ true → continues_name c ≡ true)
    (λ f h. or-later (starts_name c) _
    (or-later (c == 45) _ (or-later (c == 46) _ (or-later (nat_le 48 c && nat_le c 57) (has_between name_characters c c) f))))
    (λ f. cond_both (has_between characters c c) kinds.WideOther kinds.WideRefused (λ (k : Kind). (is_name_further k || is_wide_name_further k) ≡ true
    → continues_name c ≡ true) (λ g h. false-true h) (λ g h. false-true h)))

or-first : (s t : Bool) → s ≡ true → (s || t) ≡ true
or-first true t e = refl
or-first false t e = false-true e

either : (s t : Bool) → (s || t) ≡ true → (s ≡ true) ⊎ (t ≡ true)
either true t e = inl refl
either false t e = inr e

-- the runs of a class within those of another
inside_run : CharacterClass → ℕ × ℕ → Bool
inside_run [] r = false
inside_run (q ∷ qs) r = (nat_le q.0 r.0 && nat_le r.1 q.1) || inside_run qs r

is_within : CharacterClass → CharacterClass → Bool
is_within [] D = true
is_within (r ∷ rs) D = inside_run D r && is_within rs D

run-has : (D : CharacterClass) (r : ℕ × ℕ) (c : ℕ) → inside_run D r ≡ true → (nat_le r.0 c && nat_le c r.1) ≡ true → has_between D c c ≡ true
unfolding inside_run
run-has [] r c h k = false-true h
run-has (q ∷ qs) r c h k = elim (either (nat_le q.0 r.0 && nat_le r.1 q.1) (inside_run qs r) h) [
  | inl f ↦ or-first (nat_le q.0 c && nat_le c q.1) _ (grind (arith, nat_tests, f, k))
  | inr f ↦ or-later (nat_le q.0 c && nat_le c q.1) _ (run-has qs r c f k)
]

class-has : (C D : CharacterClass) (c : ℕ) → is_within C D ≡ true → has_between C c c ≡ true → has_between D c c ≡ true
unfolding is_within
class-has [] D c w h = false-true h
class-has (r ∷ rs) D c w h =
    let (x, y) = and_parts (inside_run D r) (is_within rs D) w in
    elim (either (nat_le r.0 c && nat_le c r.1) (has_between rs c c) h) [
      | inl f ↦ run-has D r c x f
      | inr f ↦ class-has rs D c y f
    ]

names-within : is_within name_characters characters ≡ true
unfolding is_within inside_run name_characters name_starts characters
names-within = refl

starts-within : is_within name_starts characters ≡ true
unfolding is_within inside_run name_characters name_starts characters
starts-within = refl

character-xml : (c : ℕ) → has_between characters c c ≡ true → is_xml c ≡ true
unfolding characters
character-xml c h = grind (arith, nat_tests, h)

wide-allowed : (c : ℕ) → is_allowed (wide_kind c) ≡ true → is_xml c ≡ true
unfolding wide_kind
wide-allowed c =
    cond_both (has_between name_starts c c) kinds.WideStart
    (if has_between name_characters c c then kinds.WideName else (if has_between characters c c then kinds.WideOther else kinds.WideRefused))
    (λ (k : Kind). is_allowed k ≡ true → is_xml c ≡ true)
    (λ e h. character-xml c (class-has name_starts characters c starts-within e))
    (λ e. cond_both (has_between name_characters c c) kinds.WideName (if has_between characters c c then kinds.WideOther else kinds.WideRefused)
    (λ (k : Kind). is_allowed k ≡ true → is_xml c ≡ true)
    (λ f h. character-xml c (class-has name_characters characters c names-within f))
    (λ f. cond_both (has_between characters c c) kinds.WideOther kinds.WideRefused (λ (k : Kind). is_allowed k ≡ true
    → is_xml c ≡ true) (λ g h. character-xml c g) (λ g h. false-true h)))

pub start-kind : (c : ℕ) → (is_name_start (kind c) || is_wide_name_start (kind c)) ≡ true → starts_name c ≡ true
unfolding starts_low
start-kind c =
    cond_both (nat_lt c 128) (ascii_kind c) (wide_kind c) (λ (k : Kind). (is_name_start k || is_wide_name_start k) ≡ true → starts_name c ≡ true)
    (λ e. implied _ (starts_name c) (under 128 starts_low all-starts_low c (ltb-true c 128 e))) (λ e. wide-starts c)

pub further-kind : (c : ℕ) → (is_name_further (kind c) || is_wide_name_further (kind c)) ≡ true → continues_name c ≡ true
unfolding further_low
further-kind c =
    cond_both (nat_lt c 128) (ascii_kind c) (wide_kind c) (λ (k : Kind). (is_name_further k || is_wide_name_further k) ≡ true → continues_name c ≡ true)
    (λ e. implied _ (continues_name c) (under 128 further_low all-further_low c (ltb-true c 128 e))) (λ e. wide-further c)

pub allowed-kind : (c : ℕ) → is_allowed (kind c) ≡ true → is_xml c ≡ true
unfolding allowed_low
allowed-kind c =
    cond_both (nat_lt c 128) (ascii_kind c) (wide_kind c) (λ (k : Kind). is_allowed k ≡ true → is_xml c ≡ true)
    (λ e. implied _ (is_xml c) (under 128 allowed_low all-allowed_low c (ltb-true c 128 e))) (λ e. wide-allowed c)

all-wide : (c : ℕ) → is_wide (wide_kind c) ≡ true
unfolding wide_kind
all-wide c =
    cond_both (has_between name_starts c c) kinds.WideStart
    (if has_between name_characters c c then kinds.WideName else (if has_between characters c c then kinds.WideOther else kinds.WideRefused))
    (λ (k : Kind). is_wide k ≡ true) (λ e. refl)
    (λ e. cond_both (has_between name_characters c c) kinds.WideName (if has_between characters c c then kinds.WideOther else kinds.WideRefused)
    (λ (k : Kind). is_wide k ≡ true) (λ f. refl)
    (λ f. cond_both (has_between characters c c) kinds.WideOther kinds.WideRefused (λ (k : Kind). is_wide k ≡ true) (λ g. refl) (λ g. refl)))

-- a kind below 128 is that of such a character
low-kind : (c : ℕ) → is_wide (kind c) ≡ false → c < 128
low-kind c =
    cond_both (nat_lt c 128) (ascii_kind c) (wide_kind c) (λ (k : Kind). is_wide k ≡ false
    → c < 128) (λ e h. ltb-true c 128 e) (λ e h. absurd (true-false (all-wide c) h))

start-low : (k : Kind) → is_name_start k ≡ true → is_wide k ≡ false
start-low kinds.WideStart h = false-true h
start-low kinds.WideName h = false-true h
start-low kinds.WideOther h = false-true h
start-low kinds.WideRefused h = false-true h
start-low k h = refl

further-low : (k : Kind) → is_name_further k ≡ true → is_wide k ≡ false
further-low kinds.WideStart h = false-true h
further-low kinds.WideName h = false-true h
further-low kinds.WideOther h = false-true h
further-low kinds.WideRefused h = false-true h
further-low k h = refl

-- Names.

first-told : (r : NameOwner) (cs : List ℕ) (ms : List Sign) → IsText (first_character r) cs ms
    → (c : ℕ) × (starts_name c ≡ true) × (ms ≡ all_said (spread (first_name_token r) (next_name_token r) (encode_utf8 c)))
unfolding IsText
first-told r cs ms (inl (c, is, f, g)) = (
  c,
  start-kind c (or-first (is_name_start (kind c)) _ is),
  g
      ∙ ap (λ (l : List ℕ). all_said (spread (first_name_token r) (next_name_token r) l)) (sym (encode1 c (low-kind c (start-low (kind c) is)))),
)
first-told r cs ms (inr (c, is, f, g)) = (c, start-kind c (or-later (is_name_start (kind c)) _ is), g)

later-told : (r : NameOwner) (cs : List ℕ) (ms : List Sign) → IsText (later_first r) cs ms
    → (c : ℕ) × (starts_name c ≡ true) × (ms ≡ all_said (map (next_name_token r) (encode_utf8 c)))
unfolding IsText
later-told r cs ms (inl (c, is, f, g)) = (
  c,
  start-kind c (or-first (is_name_start (kind c)) _ is),
  g
      ∙ ap (λ (l : List ℕ). all_said (map (next_name_token r) l)) (sym (encode1 c (low-kind c (start-low (kind c) is)))),
)
later-told r cs ms (inr (c, is, f, g)) =
    (c, start-kind c (or-later (is_name_start (kind c)) _ is), g ∙ ap all_said (spread-map (next_name_token r) (encode_utf8 c)))

further-told : (r : NameOwner) (cs : List ℕ) (ms : List Sign) → IsText (further_character r) cs ms
    → (c : ℕ) × (continues_name c ≡ true) × (ms ≡ all_said (map (next_name_token r) (encode_utf8 c)))
unfolding IsText
further-told r cs ms (inl (c, is, f, g)) = (
  c,
  further-kind c (or-first (is_name_further (kind c)) _ is),
  g
      ∙ ap (λ (l : List ℕ). all_said (map (next_name_token r) l)) (sym (encode1 c (low-kind c (further-low (kind c) is)))),
)
further-told r cs ms (inr (c, is, f, g)) = (
  c,
  further-kind c (or-later (is_name_further (kind c)) _ is),
  g
      ∙ ap all_said (spread-map (next_name_token r) (encode_utf8 c)),
)

abbrev Continued : NameOwner → List Sign → Type 0
Continued r ms = (ds : List ℕ) × AllByRecursion (λ c. continues_name c ≡ true) ds × (ms ≡ all_said (map (next_name_token r) (encode_utf8_all ds)))

map-said : (f : ℕ → Token) (xs ys : List ℕ) → all_said (map f xs) ++ all_said (map f ys) ≡ all_said (map f (xs ++ ys))
map-said f [] ys = refl
map-said f (x ∷ xs) ys = ap (λ (l : List Sign). says (f x) ∷ l) (map-said f xs ys)

more-told : (r : NameOwner) (k : ℕ) (cs : List ℕ) (ms : List Sign) → Times (IsText (further_character r)) k cs ms → Continued r ms
more-told r zero cs ms (f, g) = ([], tt, g)
more-told r (suc k) cs ms (c, xs, us, ys, vs, l, t, f, g) =
    let (d, is, x) = further-told r (c ∷ xs) us l in
    let (ds, all, y) = more-told r k ys vs t in (
      d ∷ ds,
      (is, all),
      g ∙ (ap (λ (z : List Sign). z ++ vs) x
          ∙ (ap (λ (z : List Sign). all_said (map (next_name_token r) (encode_utf8 d)) ++ z) y
          ∙ map-said (next_name_token r) (encode_utf8 d) (encode_utf8_all ds))),
    )

local-told : (r : NameOwner) (cs : List ℕ) (ms : List Sign) → IsText (local r) cs ms → (l : List ℕ) × IsNcName l × (ms ≡ all_said (map (next_name_token r) l))
unfolding IsText
local-told r cs ms (xs, us, ys, vs, l, (k, t), f, g) =
    let (c, is, x) = later-told r xs us l in
    let (ds, all, y) = more-told r k ys vs t in (
      encode_utf8_all (c ∷ ds),
      (c, ds, refl, is, all),
      g
          ∙ (ap (λ (z : List Sign). z ++ vs) x
          ∙ (ap (λ (z : List Sign). all_said (map (next_name_token r) (encode_utf8 c)) ++ z) y
          ∙ map-said (next_name_token r) (encode_utf8 c) (encode_utf8_all ds))),
    )

colon_low : ℕ → Bool
colon_low c = not (is_kind kinds.Colon (ascii_kind c)) || c == 58

all-colon_low : all_under 128 colon_low ≡ true
unfolding colon_low ascii_kind
all-colon_low = refl

wide-colon : (c : ℕ) → is_kind kinds.Colon (wide_kind c) ≡ true → ⊥
unfolding wide_kind
wide-colon c =
    cond_both (has_between name_starts c c) kinds.WideStart
    (if has_between name_characters c c then kinds.WideName else (if has_between characters c c then kinds.WideOther else kinds.WideRefused))
    (λ (k : Kind). is_kind kinds.Colon k ≡ true → ⊥) (λ e h. false-true h)
    (λ e. cond_both (has_between name_characters c c) kinds.WideName (if has_between characters c c then kinds.WideOther else kinds.WideRefused)
    (λ (k : Kind). is_kind kinds.Colon k ≡ true → ⊥) (λ f h. false-true h)
    (λ f. cond_both (has_between characters c c) kinds.WideOther kinds.WideRefused (λ (k : Kind). is_kind kinds.Colon k ≡ true
    → ⊥) (λ g h. false-true h) (λ g h. false-true h)))

colon-kind : (c : ℕ) → is_kind kinds.Colon (kind c) ≡ true → c ≡ 58
unfolding colon_low
colon-kind c =
    cond_both (nat_lt c 128) (ascii_kind c) (wide_kind c) (λ (k : Kind). is_kind kinds.Colon k ≡ true → c ≡ 58)
    (λ e h. eqb-true c 58 (implied _ (c == 58) (under 128 colon_low all-colon_low c (ltb-true c 128 e)) h)) (λ e h. absurd (wide-colon c h))

spread-said : (f g : ℕ → Token) (xs ys : List ℕ) (b : ℕ) (zs : List ℕ) → xs ≡ b ∷ zs
    → all_said (spread f g xs) ++ all_said (map g ys) ≡ all_said (spread f g (xs ++ ys))
spread-said f g xs ys b zs e = sym (said-append (spread f g xs) (map g ys)) ∙ ap all_said (spread-more f g xs ys b zs e)

abbrev NameTold : NameOwner → List Sign → Type 0
NameTold r ms = (b : ℕ) × (bs : List ℕ) × IsQName (b ∷ bs) × (ms ≡ all_said (spread (first_name_token r) (next_name_token r) (b ∷ bs)))

name-told : (r : NameOwner) (name : List ℕ) (ms : List Sign) (b : ℕ) (bs : List ℕ) → name ≡ b ∷ bs → IsQName name
    → ms ≡ all_said (spread (first_name_token r) (next_name_token r) name) → NameTold r ms
name-told r name ms b bs e q g = (b, bs, subst IsQName e q, g ∙ ap (λ (l : List ℕ). all_said (spread (first_name_token r) (next_name_token r) l)) e)

abbrev ColonTold : NameOwner → List Sign → Type 0
ColonTold r ms = (ms ≡ []) ⊎ ((l : List ℕ) × IsNcName l × (ms ≡ all_said (map (next_name_token r) (58 ∷ l))))

colon-told : (r : NameOwner) (cs : List ℕ) (ms : List Sign) → IsText (optional (concat (colon r) (local r))) cs ms → ColonTold r ms
unfolding IsText
colon-told r cs ms (inr (f, g)) = inl g
colon-told r cs ms (inl (xs, us, ys, vs, (c, is, h, i), l, f, g)) =
    let (name, ncname, x) = local-told r ys vs l in
    inr (
      name,
      ncname,
      g ∙ (ap (λ (z : List Sign). z ++ vs) (i ∙ ap (λ (d : ℕ). says (next_name_token r d) ∷ []) (colon-kind c is))
          ∙ ap (λ (z : List Sign). says (next_name_token r 58) ∷ z) x),
    )

qname-told : (r : NameOwner) (cs : List ℕ) (ms : List Sign) → IsText (qualified_name r) cs ms → NameTold r ms
unfolding IsText
qname-told r cs ms (xs, us, ys, vs, l, (xs1, us1, ys1, vs1, (k, t), o, f1, g1), f, g) =
    let (c, is, x) = first-told r xs us l in
    let (ds, all, y) = more-told r k xs1 us1 t in
    by c is x ds all y (colon-told r ys1 vs1 o)
  where
    by : (c : ℕ) → starts_name c ≡ true → us ≡ all_said (spread (first_name_token r) (next_name_token r) (encode_utf8 c)) → (ds : List ℕ)
        → AllByRecursion (λ d. continues_name d ≡ true) ds
        → us1 ≡ all_said (map (next_name_token r) (encode_utf8_all ds)) → ColonTold r vs1 → NameTold r ms
    by c is x ds all y told_after =
        let (b, zs, e) = first-byte c in
        let front : List ℕ = encode_utf8_all (c ∷ ds) in
        let starts : front ≡ b ∷ (zs ++ encode_utf8_all ds) = ap (λ (z : List ℕ). z ++ encode_utf8_all ds) e in
        let two : us ++ us1 ≡ all_said (spread (first_name_token r) (next_name_token r) front) =
        ap (λ (z : List Sign). z ++ us1) x ∙ (ap (λ (z : List Sign). all_said (spread (first_name_token r) (next_name_token r) (encode_utf8 c)) ++ z) y
        ∙ spread-said (first_name_token r) (next_name_token r) (encode_utf8 c) (encode_utf8_all ds) b zs e) in
        let ncname : IsNcName front = (c, ds, refl, is, all) in
        let three : ms ≡ (us ++ us1) ++ vs1 = g ∙ (ap (λ (z : List Sign). us ++ z) g1 ∙ sym (append_assoc us us1 vs1)) in
        last front b (zs ++ encode_utf8_all ds) starts ncname two three told_after
      where
        last : (front : List ℕ) (b : ℕ) (bs : List ℕ) → front ≡ b ∷ bs → IsNcName front
            → us ++ us1 ≡ all_said (spread (first_name_token r) (next_name_token r) front) → ms ≡ (us ++ us1) ++ vs1 → ColonTold r vs1 → NameTold r ms
        last front b bs e n two three (inl h) =
            name-told r front ms b bs e (inl n) (three ∙ (ap (λ (z : List Sign). (us ++ us1) ++ z) h ∙ (append-nil (us ++ us1) ∙ two)))
        last front b bs e n two three (inr (l, m, h)) =
            name-told r (front ++ (58 ∷ l)) ms b (bs ++ (58 ∷ l)) (ap (λ (z : List ℕ). z ++ (58 ∷ l)) e) (inr (front, l, refl, n, m))
            (three ∙ (ap (λ (z : List Sign). z ++ vs1) two ∙ (ap (λ (z : List Sign). all_said (spread (first_name_token r) (next_name_token r) front) ++ z) h
            ∙ spread-said (first_name_token r) (next_name_token r) front (58 ∷ l) b bs e)))

checks-bytes : (r : NameOwner) (n bs : List ℕ) → Checks n (all_said (map (next_name_token r) bs)) (n ++ bs)
checks-bytes r n [] = sym (append-nil n)
checks-bytes StartTag n (b ∷ bs) =
    (tt, subst (Checks (n ++ b ∷ []) (all_said (map (next_name_token StartTag) bs))) (append_assoc n (b ∷ []) bs) (checks-bytes StartTag (n ++ b ∷ []) bs))
checks-bytes EndTag n (b ∷ bs) =
    (tt, subst (Checks (n ++ b ∷ []) (all_said (map (next_name_token EndTag) bs))) (append_assoc n (b ∷ []) bs) (checks-bytes EndTag (n ++ b ∷ []) bs))
checks-bytes Attribute n (b ∷ bs) =
    (tt, subst (Checks (n ++ b ∷ []) (all_said (map (next_name_token Attribute) bs))) (append_assoc n (b ∷ []) bs) (checks-bytes Attribute (n ++ b ∷ []) bs))

checks-name : (r : NameOwner) (n : List ℕ) (b : ℕ) (bs : List ℕ) → EndsName n
    → Checks n (all_said (spread (first_name_token r) (next_name_token r) (b ∷ bs))) (b ∷ bs)
checks-name StartTag n b bs e = (tt, checks-bytes StartTag (b ∷ []) bs)
checks-name EndTag n b bs e = (tt, checks-bytes EndTag (b ∷ []) bs)
checks-name Attribute n b bs e = (e, checks-bytes Attribute (b ∷ []) bs)

pub pass-name : (r : NameOwner) → Pass (qualified_name r)
pass-name r n e cs ms m =
    let (b, bs, q, g) = qname-told r cs ms m in
    (b ∷ bs, inr q, subst (λ (l : List Sign). Checks n l (b ∷ bs)) (sym g) (checks-name r n b bs e))
