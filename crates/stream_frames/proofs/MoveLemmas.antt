-- Moves are the nesting's.
use Rattle.std.proofs.Common.{◌≡◌, ℕ, ◌+◌, ◌<◌, ◌≤◌, inl, inr, List, [], ◌∷◌, ◌++◌, length, drop, refl, sym, ap, ◌∙◌, Bool}
use Rattle.std.proofs.Common.{true, false, not, cond, ◌&&◌, ◌||◌, ◌==◌, nat_lt, nat_le, arith, get_or}
use Rattle.std.proofs.lemmas.Bool.{cond-true, cases_lt}
use Rattle.std.proofs.lemmas.Bool.Decides.{nat_tests}
use Rattle.std.proofs.lemmas.List.{drop_more, drop_all}
use Rattle.stream_lex.specs.declared.Token.{Token}
use Rattle.stream_lex.specs.declared.Token.TheVariants as token
use Rattle.stream_lex.specs.declared.stages.State.{State}
use Rattle.stream_lex.proofs.Lists.{false-true}
use Rattle.stream_grammar.specs.declared.rules.Rules.{Rules}
use Rattle.stream_frames.specs.declared.places.Place.{Place}
use Rattle.stream_frames.specs.declared.places.Place.TheVariants as place
use Rattle.stream_frames.specs.declared.places.Move.{Move}
use Rattle.stream_frames.specs.declared.places.Move.TheVariants as move
use Rattle.stream_grammar.specs.grammar.Trees.{RawName, is_space}
use Rattle.stream_grammar.specs.machine.Nesting.{Nest, start, declared, inside, naming, in_tag, naming_attribute, in_value, closing}
use Rattle.stream_grammar.specs.machine.Nesting.{lost, may_stand, before_root, after_name, nest, nest_all}
use Rattle.stream_grammar.specs.machine.Framing.{comes_to_space, is_empty_mark, is_after_end_name, open_at, broken, placed, is_broken}
use Rattle.stream_frames.specs.Stacks.{outer, left_of, next_is, is_all}
use Rattle.stream_frames.specs.Moves.{is_none, is_one, stands, root_move, content_move, name_move, attribute_move}
use Rattle.stream_frames.specs.Moves.{value_move, closing_move, start_move, naming_move, place_move, words_move, many_move}
use Rattle.stream_frames.specs.Moves.{tokens_move, gap_breaks, tag_breaks, place_breaks, breaks}
use Rattle.stream_frames.specs.Tracking.{nest_at, moved}
use Rattle.stream_grammar.specs.machine.Telling.{are_words, is_few}

or-true : (t : Bool) → (t || true) ≡ true
or-true true = refl
or-true false = refl

moved-cond : (c : Bool) (m : Move) (n1 : Nest) (st : List RawName) (n : RawName) → moved m st n ≡ n1 → moved (cond c m move.Lost) st n ≡ cond c n1 lost
moved-cond true m n1 st n e = e
moved-cond false m n1 st n e = refl

root-moved : (st : List RawName) (t : Token) (n : RawName) → moved (root_move t) st n ≡ before_root t
root-moved st (token.TagOpens b) n = refl
root-moved st t n = refl

-- one name or more
word-moved : (r : Rules) (m : RawName) (st : List RawName) (c : ℕ) (n : RawName)
    → moved (cond (stands r (m ∷ st) c) (move.To place.Inside) move.Lost) (m ∷ st) n ≡ cond (may_stand r st c) (inside (m ∷ st)) lost
word-moved r m [] c n = moved-cond (is_space c || r.loose) (move.To place.Inside) (inside (m ∷ [])) (m ∷ []) n refl
word-moved r m (x ∷ st) c n = sym (cond-true (may_stand r (x ∷ st) c) (inside (m ∷ x ∷ st)) lost (or-true (is_space c)))

lower : (n d : ℕ) → nat_le (n + 1) d ≡ nat_lt n d
lower n d = elim (cases_lt n d) [ inl h ↦ low n d h | inr h ↦ high n d h ]
  where
    low : (n d : ℕ) → n < d → nat_le (n + 1) d ≡ nat_lt n d
    low n d h = grind (arith, nat_tests)

    high : (n d : ℕ) → d ≤ n → nat_le (n + 1) d ≡ nat_lt n d
    high n d h = grind (arith, nat_tests)

long : (m : RawName) (st : List RawName) → length (m ∷ st) ≡ length st + 1
long m st = omega arith

content-moved : (r : Rules) (st : List RawName) (t : Token) (n : RawName) → moved (content_move r st t) st n ≡ nest r (inside st) t
unfolding nest
content-moved r [] (token.Word c) n = refl
content-moved r [] (token.TagOpens b) n = refl
content-moved r [] (token.CloseOpens b) n = refl
content-moved r [] t n = refl
content-moved r (m ∷ st) (token.Word c) n = word-moved r m st c n
content-moved r (m ∷ st) (token.TagOpens b) n =
    moved-cond (nat_le (length (m ∷ st)) r.depth) (move.Begins b) (naming (m ∷ st) (b, [])) (m ∷ st) n refl
    ∙ ap (λ (t : Bool). cond t (naming (m ∷ st) (b, [])) lost) (ap (λ (k : ℕ). nat_le k r.depth) (long m st) ∙ lower (length st) r.depth)
content-moved r (m ∷ st) (token.CloseOpens b) n = moved-cond (b == m.0) (move.To (place.Closing 0)) (closing st m.1) (m ∷ st) n refl
content-moved r (m ∷ st) t n = refl

name-moved : (r : Rules) (st : List RawName) (k : ℕ) (t : Token) (n : RawName) → moved (name_move r st k t) st n ≡ after_name r st n k t
name-moved r st k (token.AttrOpens b) n = moved-cond (nat_lt k r.attributes) (move.To (place.NamingAttribute (k + 1))) (naming_attribute st n (k + 1)) st n refl
name-moved r [] k (token.TagEnds true) n = refl
name-moved r (m ∷ st) k (token.TagEnds true) n = refl
name-moved r st k (token.TagEnds false) n = refl
name-moved r st k t n = refl

next-head : (x : ℕ) (m : List ℕ) (y : ℕ) (s : List RawName) (r : Rules) (d : List ℕ) → d ≡ x ∷ m
    → cond (next_is d y) (closing s m) lost ≡ nest r (closing s d) (token.NameByte y)
unfolding nest
next-head x m y s r d e =
    ap (λ (l : List ℕ). cond (next_is l y) (closing s m) lost) e ∙ sym (ap (λ (l : List ℕ). nest r (closing s l) (token.NameByte y)) e)

next-none : (m : List ℕ) (y : ℕ) (s : List RawName) (r : Rules) (d : List ℕ) → d ≡ []
    → cond (next_is d y) (closing s m) lost ≡ nest r (closing s d) (token.NameByte y)
unfolding nest
next-none m y s r d e =
    ap (λ (l : List ℕ). cond (next_is l y) (closing s m) lost) e ∙ sym (ap (λ (l : List ℕ). nest r (closing s l) (token.NameByte y)) e)

closing-next : (l : List ℕ) (i y : ℕ) (s : List RawName) (r : Rules)
    → cond (next_is (drop i l) y) (closing s (drop (i + 1) l)) lost ≡ nest r (closing s (drop i l)) (token.NameByte y)
closing-next l i y s r = elim (cases_lt i (length l)) [
  | inl h ↦ next-head (get_or l i 0) (drop (i + 1) l) y s r (drop i l) (drop_more l i 0 h)
  | inr h ↦ next-none (drop (i + 1) l) y s r (drop i l) (drop_all i l h)
]

closing-end : (l : List ℕ) (s : List RawName) (r : Rules) → cond (is_all l) (inside s) lost ≡ nest r (closing s l) token.CloseEnds
unfolding nest
closing-end [] s r = refl
closing-end (x ∷ l) s r = refl

is_closing_token : Token → Bool
is_closing_token (token.NameByte y) = true
is_closing_token token.CloseEnds = true
is_closing_token t = false

closing-other : (r : Rules) (s : List RawName) (l : List ℕ) (t : Token) → is_closing_token t ≡ false → nest r (closing s l) t ≡ lost
unfolding nest is_closing_token
closing-other r s [] (token.NameByte y) h = absurd (let bad : true ≡ false = h in cc)
closing-other r s (x ∷ l) (token.NameByte y) h = absurd (let bad : true ≡ false = h in cc)
closing-other r s [] token.CloseEnds h = absurd (let bad : true ≡ false = h in cc)
closing-other r s (x ∷ l) token.CloseEnds h = absurd (let bad : true ≡ false = h in cc)
closing-other r s [] t h = refl
closing-other r s (x ∷ l) t h = refl

closing-moved : (r : Rules) (st : List RawName) (i : ℕ) (t : Token) (n : RawName)
    → moved (closing_move st i t) st n ≡ nest r (closing (outer st) (left_of st i)) t
unfolding is_closing_token
closing-moved r [] i (token.NameByte y) n = next-none [] y [] r [] refl
closing-moved r (m ∷ st) i (token.NameByte y) n =
    moved-cond (next_is (drop i m.1) y) (move.To (place.Closing (i + 1))) (closing st (drop (i + 1) m.1)) (m ∷ st) n refl ∙ closing-next m.1 i y st r
closing-moved r st i token.CloseEnds n = moved-cond (is_all (left_of st i)) move.Leaves (inside (outer st)) st n refl ∙ closing-end (left_of st i) (outer st) r
closing-moved r st i (token.TagOpens b) n = sym (closing-other r (outer st) (left_of st i) (token.TagOpens b) refl)
closing-moved r st i (token.CloseOpens b) n = sym (closing-other r (outer st) (left_of st i) (token.CloseOpens b) refl)
closing-moved r st i (token.AttrOpens b) n = sym (closing-other r (outer st) (left_of st i) (token.AttrOpens b) refl)
closing-moved r st i (token.AttrByte b) n = sym (closing-other r (outer st) (left_of st i) (token.AttrByte b) refl)
closing-moved r st i token.ValueOpens n = sym (closing-other r (outer st) (left_of st i) token.ValueOpens refl)
closing-moved r st i (token.Value c) n = sym (closing-other r (outer st) (left_of st i) (token.Value c) refl)
closing-moved r st i token.ValueEnds n = sym (closing-other r (outer st) (left_of st i) token.ValueEnds refl)
closing-moved r st i (token.Word c) n = sym (closing-other r (outer st) (left_of st i) (token.Word c) refl)
closing-moved r st i (token.TagEnds e) n = sym (closing-other r (outer st) (left_of st i) (token.TagEnds e) refl)
closing-moved r st i token.Declaration n = sym (closing-other r (outer st) (left_of st i) token.Declaration refl)

attribute-moved : (r : Rules) (st : List RawName) (k : ℕ) (t : Token) (n : RawName) → moved (attribute_move k t) st n ≡ nest r (naming_attribute st n k) t
unfolding nest
attribute-moved r st k (token.AttrByte x) n = refl
attribute-moved r st k token.ValueOpens n = refl
attribute-moved r st k t n = refl

value-moved : (r : Rules) (st : List RawName) (k : ℕ) (t : Token) (n : RawName) → moved (value_move k t) st n ≡ nest r (in_value st n k) t
unfolding nest
value-moved r st k (token.Value x) n = refl
value-moved r st k token.ValueEnds n = refl
value-moved r st k t n = refl

naming-moved : (r : Rules) (st : List RawName) (t : Token) (n : RawName) → moved (naming_move r st t) st n ≡ nest r (naming st n) t
unfolding nest
naming-moved r st (token.NameByte x) n = refl
naming-moved r st (token.TagOpens b) n = name-moved r st 0 (token.TagOpens b) n
naming-moved r st (token.CloseOpens b) n = name-moved r st 0 (token.CloseOpens b) n
naming-moved r st (token.AttrOpens b) n = name-moved r st 0 (token.AttrOpens b) n
naming-moved r st (token.AttrByte b) n = name-moved r st 0 (token.AttrByte b) n
naming-moved r st token.ValueOpens n = name-moved r st 0 token.ValueOpens n
naming-moved r st (token.Value c) n = name-moved r st 0 (token.Value c) n
naming-moved r st token.ValueEnds n = name-moved r st 0 token.ValueEnds n
naming-moved r st (token.Word c) n = name-moved r st 0 (token.Word c) n
naming-moved r st (token.TagEnds e) n = name-moved r st 0 (token.TagEnds e) n
naming-moved r st token.CloseEnds n = name-moved r st 0 token.CloseEnds n
naming-moved r st token.Declaration n = name-moved r st 0 token.Declaration n

start-moved : (r : Rules) (st : List RawName) (t : Token) (n : RawName) → moved (start_move t) st n ≡ nest r start t
unfolding nest
start-moved r st token.Declaration n = refl
start-moved r st (token.TagOpens b) n = root-moved st (token.TagOpens b) n
start-moved r st (token.NameByte b) n = root-moved st (token.NameByte b) n
start-moved r st (token.CloseOpens b) n = root-moved st (token.CloseOpens b) n
start-moved r st (token.AttrOpens b) n = root-moved st (token.AttrOpens b) n
start-moved r st (token.AttrByte b) n = root-moved st (token.AttrByte b) n
start-moved r st token.ValueOpens n = root-moved st token.ValueOpens n
start-moved r st (token.Value c) n = root-moved st (token.Value c) n
start-moved r st token.ValueEnds n = root-moved st token.ValueEnds n
start-moved r st (token.Word c) n = root-moved st (token.Word c) n
start-moved r st (token.TagEnds x) n = root-moved st (token.TagEnds x) n
start-moved r st token.CloseEnds n = root-moved st token.CloseEnds n

declared-moved : (r : Rules) (st : List RawName) (t : Token) (n : RawName) → moved (root_move t) st n ≡ nest r declared t
unfolding nest
declared-moved r st t n = root-moved st t n

tag-moved : (r : Rules) (st : List RawName) (k : ℕ) (t : Token) (n : RawName) → moved (name_move r st k t) st n ≡ nest r (in_tag st n k) t
unfolding nest
tag-moved r st k t n = name-moved r st k t n

pub place-moved : (r : Rules) (p : Place) (st : List RawName) (t : Token) (n : RawName) → moved (place_move r p st t) st n ≡ nest r (nest_at p st n) t
place-moved r place.Start st t n = start-moved r st t n
place-moved r place.Declared st t n = declared-moved r st t n
place-moved r place.Inside st t n = content-moved r st t n
place-moved r place.Naming st t n = naming-moved r st t n
place-moved r (place.InTag k) st t n = tag-moved r st k t n
place-moved r (place.NamingAttribute k) st t n = attribute-moved r st k t n
place-moved r (place.InValue k) st t n = value-moved r st k t n
place-moved r (place.Closing i) st t n = closing-moved r st i t n

lost-stays : (r : Rules) (us : List Token) → nest_all r lost us ≡ lost
unfolding nest
lost-stays r [] = refl
lost-stays r (u ∷ us) = lost-stays r us

word-nest : (r : Rules) (st : List RawName) (c : ℕ) → nest r (inside st) (token.Word c) ≡ cond (stands r st c) (inside st) lost
word-nest r st c = sym (content-moved r st (token.Word c) (0, [])) ∙ moved-cond (stands r st c) (move.To place.Inside) (inside st) st (0, []) refl

words-by : (r : Rules) (st : List RawName) (us : List Token) (n : RawName) (t : Bool) (n1 : Nest) → n1 ≡ cond t (inside st) lost
    → moved (words_move r st us) st n ≡ nest_all r (inside st) us
    → moved (cond t (words_move r st us) move.Lost) st n ≡ nest_all r n1 us
words-by r st us n true n1 e h = h ∙ ap (λ (x : Nest). nest_all r x us) (sym e)
words-by r st us n false n1 e h = sym (ap (λ (x : Nest). nest_all r x us) e ∙ lost-stays r us)

words-moved : (r : Rules) (st : List RawName) (us : List Token) (n : RawName) → are_words us ≡ true
    → moved (words_move r st us) st n ≡ nest_all r (inside st) us
words-moved r st [] n h = refl
words-moved r st (token.Word c ∷ us) n h = words-by r st us n (stands r st c) (nest r (inside st) (token.Word c)) (word-nest r st c) (words-moved r st us n h)
words-moved r st (u ∷ us) n h = false-true h

is_inside : Place → Bool
is_inside place.Inside = true
is_inside p = false

-- words where none may stand
words-lost : (r : Rules) (p : Place) (st : List RawName) (us : List Token) (n : RawName) (c : ℕ) → nest r (nest_at p st n) (token.Word c) ≡ lost
    → lost ≡ nest_all r (nest_at p st n) (token.Word c ∷ us)
words-lost r p st us n c e = sym (ap (λ (x : Nest). nest_all r x us) e ∙ lost-stays r us)

no-word : (r : Rules) (p : Place) (st : List RawName) (n : RawName) (c : ℕ) → is_inside p ≡ false → nest r (nest_at p st n) (token.Word c) ≡ lost
unfolding nest is_inside is_closing_token
no-word r place.Inside st n c h = absurd (let bad : true ≡ false = h in cc)
no-word r (place.Closing i) st n c h = closing-other r (outer st) (left_of st i) (token.Word c) refl
no-word r place.Start st n c h = refl
no-word r p st n c h = refl

many-moved : (r : Rules) (p : Place) (st : List RawName) (us : List Token) (n : RawName) (c : ℕ) → are_words us ≡ true
    → moved (many_move r p st (token.Word c ∷ us)) st n ≡ nest_all r (nest_at p st n) (token.Word c ∷ us)
unfolding is_inside
many-moved r place.Inside st us n c h = words-moved r st (token.Word c ∷ us) n h
many-moved r place.Start st us n c h = words-lost r place.Start st us n c (no-word r place.Start st n c refl)
many-moved r place.Declared st us n c h = words-lost r place.Declared st us n c (no-word r place.Declared st n c refl)
many-moved r place.Naming st us n c h = words-lost r place.Naming st us n c (no-word r place.Naming st n c refl)
many-moved r (place.InTag k) st us n c h = words-lost r (place.InTag k) st us n c (no-word r (place.InTag k) st n c refl)
many-moved r (place.NamingAttribute k) st us n c h = words-lost r (place.NamingAttribute k) st us n c (no-word r (place.NamingAttribute k) st n c refl)
many-moved r (place.InValue k) st us n c h = words-lost r (place.InValue k) st us n c (no-word r (place.InValue k) st n c refl)
many-moved r (place.Closing i) st us n c h = words-lost r (place.Closing i) st us n c (no-word r (place.Closing i) st n c refl)

pub tokens-moved : (r : Rules) (p : Place) (st : List RawName) (us : List Token) (n : RawName) → is_few us ≡ true
    → moved (tokens_move r p st us) st n ≡ nest_all r (nest_at p st n) us
tokens-moved r p st [] n h = refl
tokens-moved r p st (t ∷ []) n h = place-moved r p st t n
tokens-moved r p st (token.Word c ∷ u ∷ us) n h = many-moved r p st (u ∷ us) n c h
tokens-moved r p st (t ∷ u ∷ us) n h = false-true h

-- Whether the frame breaks.

cond-broken : (s : State) (n : Nest) (c d : Bool) → d ≡ not c → d ≡ is_broken (cond c (open_at s n) broken)
cond-broken s n true d e = e
cond-broken s n false d e = e

not-not : (c : Bool) → c ≡ not (not c)
not-not true = refl
not-not false = refl

naming-breaks : (r : Rules) (s : State) (st : List RawName) (n : RawName) → tag_breaks s st ≡ is_broken (placed r s (naming st n))
naming-breaks r s [] n = cond-broken s (naming [] n) (not (is_empty_mark s.stage)) (is_empty_mark s.stage) (not-not (is_empty_mark s.stage))
naming-breaks r s (m ∷ st) n = refl

in_tag-breaks : (r : Rules) (s : State) (st : List RawName) (n : RawName) (k : ℕ) → tag_breaks s st ≡ is_broken (placed r s (in_tag st n k))
in_tag-breaks r s [] n k = cond-broken s (in_tag [] n k) (not (is_empty_mark s.stage)) (is_empty_mark s.stage) (not-not (is_empty_mark s.stage))
in_tag-breaks r s (m ∷ st) n k = refl

inside-breaks : (r : Rules) (s : State) (st : List RawName) → (is_one st && gap_breaks r s) ≡ is_broken (placed r s (inside st))
inside-breaks r s [] = refl
inside-breaks r s (m ∷ []) = cond-broken s (inside (m ∷ [])) (comes_to_space s || r.loose) (gap_breaks r s) refl
inside-breaks r s (m ∷ x ∷ st) = refl

enters-breaks : (r : Rules) (s : State) (st : List RawName) (n : RawName) → (is_none st && gap_breaks r s) ≡ is_broken (placed r s (inside (n ∷ st)))
enters-breaks r s [] n = cond-broken s (inside (n ∷ [])) (comes_to_space s || r.loose) (gap_breaks r s) refl
enters-breaks r s (m ∷ st) n = refl

closing-breaks : (r : Rules) (s : State) (st : List RawName) (l : List ℕ)
    → (not (is_all l) && is_after_end_name s.stage) ≡ is_broken (placed r s (closing st l))
closing-breaks r s st [] = refl
closing-breaks r s st (x ∷ l) = cond-broken s (closing st (x ∷ l)) (not (is_after_end_name s.stage)) (is_after_end_name s.stage)
    (not-not (is_after_end_name s.stage))

place-breaks : (r : Rules) (s : State) (p : Place) (st : List RawName) (n : RawName) → place_breaks r s p st ≡ is_broken (placed r s (nest_at p st n))
place-breaks r s place.Start st n = refl
place-breaks r s place.Declared st n = refl
place-breaks r s place.Inside st n = inside-breaks r s st
place-breaks r s place.Naming st n = naming-breaks r s st n
place-breaks r s (place.InTag k) st n = in_tag-breaks r s st n k
place-breaks r s (place.NamingAttribute k) st n = refl
place-breaks r s (place.InValue k) st n = refl
place-breaks r s (place.Closing i) st n = closing-breaks r s (outer st) (left_of st i)

pub move-breaks : (r : Rules) (s : State) (m : Move) (st : List RawName) (n : RawName) → breaks r s m st ≡ is_broken (placed r s (moved m st n))
move-breaks r s (move.To p) st n = place-breaks r s p st n
move-breaks r s (move.Roots b) st n = cond-broken s (naming [] (b, [])) (not (is_empty_mark s.stage)) (is_empty_mark s.stage) (not-not (is_empty_mark s.stage))
move-breaks r s (move.Begins b) st n = naming-breaks r s st (b, [])
move-breaks r s (move.Adds x) st n = naming-breaks r s st (n.0, n.1 ++ x ∷ [])
move-breaks r s move.Enters st n = enters-breaks r s st n
move-breaks r s move.Leaves st n = inside-breaks r s (outer st)
move-breaks r s move.Lost st n = refl
