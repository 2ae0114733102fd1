-- A lexical state and a nesting that are reached together fit each other.
use Rattle.std.proofs.Common.{◌≡◌, ℕ, ◌+◌, ◌⊎◌, inl, inr, List, [], ◌∷◌, length, refl, sym, subst, Bool, true, false, cond, ◌==◌, nat_lt}
use Rattle.std.proofs.lemmas.Bool.{eqb-true}
use Rattle.stream_lex.specs.declared.Token.{Token}
use Rattle.stream_lex.specs.declared.Token.TheVariants as token
use Rattle.stream_lex.specs.declared.stages.State.{State}
use Rattle.stream_lex.specs.machine.Turns.{leads, turn}
use Rattle.stream_lex.proofs.Lists.{false-true}
use Rattle.std.proofs.lemmas.Bool.{cond_both}
use Rattle.stream_grammar.specs.grammar.Trees.{RawName}
use Rattle.stream_grammar.specs.declared.rules.Rules.{Rules}
use Rattle.stream_grammar.specs.machine.Nesting.{Nest, start, declared, inside, naming, in_tag, naming_attribute, in_value}
use Rattle.stream_grammar.specs.machine.Nesting.{closing, lost, may_stand, after_hollow, nest, nest_all}
use Rattle.stream_grammar.specs.machine.Framing.{is_after_end_name}
use Rattle.stream_grammar.specs.machine.Sorts.{Sort, at_begin, at_prolog, at_content, at_name, at_tag, at_attribute, at_value, at_ending}
use Rattle.stream_grammar.proofs.Sorts.{may_move}
use Rattle.stream_grammar.specs.machine.Sorts.{sort_of}
use Rattle.stream_grammar.proofs.Moving.{calm, Led, turn-led}
use Rattle.stream_grammar.proofs.Twins.{words}
use Rattle.stream_grammar.proofs.Naming.{CloseReady, Closable, SoFar, AllClosable, name-done, so_far-closable, first-so_far}
use Rattle.stream_grammar.proofs.Naming.{next-so_far, first-ready, next-ready, ended-words, ending-still}

abbrev pub Fits : State → Nest → Type 0
Fits st start = (sort_of st ≡ at_begin) ⊎ (sort_of st ≡ at_prolog)
Fits st declared = sort_of st ≡ at_prolog
Fits st (inside []) = st ≡ words
Fits st (inside (m ∷ s)) = (sort_of st ≡ at_content) × AllClosable (m ∷ s)
Fits st (naming s n) = (((sort_of st ≡ at_name) × SoFar st n) ⊎ ((sort_of st ≡ at_tag) × Closable n)) × AllClosable s
Fits st (in_tag s n k) = (sort_of st ≡ at_tag) × Closable n × AllClosable s
Fits st (naming_attribute s n k) = (sort_of st ≡ at_attribute) × Closable n × AllClosable s
Fits st (in_value s n k) = (sort_of st ≡ at_value) × Closable n × AllClosable s
Fits st (closing s m) = (sort_of st ≡ at_ending) × CloseReady st m × AllClosable s
Fits st lost = Unit {0}

cond-fits : (st : State) (c : Bool) (n : Nest) → (c ≡ true → Fits st n) → Fits st (cond c n lost)
cond-fits st true n h = h refl
cond-fits st false n h = tt

-- Each nesting.

lost-stays : (r : Rules) (us : List Token) → nest_all r lost us ≡ lost
unfolding nest
lost-stays r [] = refl
lost-stays r (u ∷ us) = lost-stays r us

pub words-fit : (r : Rules) (to : State) (m : RawName) (s : List RawName) (us : List Token) → may_move at_content us at_content ≡ true → sort_of to ≡ at_content
    → AllClosable (m ∷ s) → Fits to (nest_all r (inside (m ∷ s)) us)
unfolding nest
words-fit r to m s [] h e a = (e, a)
words-fit r to m s (token.Word c ∷ us) h e a =
    cond_both (may_stand r s c) (inside (m ∷ s)) lost (λ (n : Nest). Fits to (nest_all r n us)) (λ t. words-fit r to m s us h e a)
    (λ t. subst (Fits to) (sym (lost-stays r us)) tt)
words-fit r to m s (u ∷ []) h e a = false-true h
words-fit r to m s (u ∷ v ∷ us) h e a = false-true h

-- in the name of an end tag that is not whole, after white space
abbrev pub Strays : State → Nest → Type 0
Strays to (closing s (x ∷ m)) = is_after_end_name to.stage ≡ true
Strays to n = ⊥

abbrev pub FitsNext : State → Nest → Type 0
FitsNext to n = (Fits to n) ⊎ (Strays to n)

begin-fits : (r : Rules) (st to : State) (b : ℕ) (us : List Token) (y : Sort) → turn st b ≡ leads to us → calm st ≡ true → sort_of to ≡ y
    → may_move at_begin us y ≡ true → Fits to (nest_all r start us)
unfolding nest
begin-fits r st to b [] at_begin e c f h = inl f
begin-fits r st to b [] at_prolog e c f h = inr f
begin-fits r st to b (token.TagOpens z ∷ []) at_name e c f h = (inl (f, first-so_far st to b z e c), tt)
begin-fits r st to b (token.Declaration ∷ []) at_prolog e c f h = f
begin-fits r st to b us y e c f h = false-true h

prolog-fits : (r : Rules) (st to : State) (b : ℕ) (us : List Token) (y : Sort) → turn st b ≡ leads to us → calm st ≡ true → sort_of to ≡ y
    → may_move at_prolog us y ≡ true → Fits to (nest_all r start us)
unfolding nest
prolog-fits r st to b [] at_prolog e c f h = inr f
prolog-fits r st to b (token.TagOpens z ∷ []) at_name e c f h = (inl (f, first-so_far st to b z e c), tt)
prolog-fits r st to b us y e c f h = false-true h

declared-fits : (r : Rules) (st to : State) (b : ℕ) (us : List Token) (y : Sort) → turn st b ≡ leads to us → calm st ≡ true → sort_of to ≡ y
    → may_move at_prolog us y ≡ true → Fits to (nest_all r declared us)
unfolding nest
declared-fits r st to b [] at_prolog e c f h = f
declared-fits r st to b (token.TagOpens z ∷ []) at_name e c f h = (inl (f, first-so_far st to b z e c), tt)
declared-fits r st to b us y e c f h = false-true h

content-fits : (r : Rules) (st to : State) (b : ℕ) (m : RawName) (s : List RawName) (us : List Token) (y : Sort) → turn st b ≡ leads to us → calm st ≡ true
    → AllClosable (m ∷ s) → sort_of to ≡ y
    → may_move at_content us y ≡ true → Fits to (nest_all r (inside (m ∷ s)) us)
unfolding nest
content-fits r st to b m s us at_content e c a f h = words-fit r to m s us h f a
content-fits r st to b m s (token.TagOpens z ∷ []) at_name e c a f h =
    cond-fits to (nat_lt (length s) r.depth) (naming (m ∷ s) (z, [])) (λ t. (inl (f, first-so_far st to b z e c), a))
content-fits r st to b m s (token.CloseOpens z ∷ []) at_ending e c a f h =
    cond-fits to (z == m.0) (closing s m.1) (λ t. (f, first-ready st to b z m e c f (eqb-true z m.0 t) a.0, a.1))
content-fits r st to b m s [] y e c a f h = false-true h
content-fits r st to b m s (token.Word z ∷ []) y e c a f h = false-true h
content-fits r st to b m s (u ∷ []) y e c a f h = false-true h
content-fits r st to b m s (token.Word z ∷ v ∷ us) y e c a f h = false-true h
content-fits r st to b m s (u ∷ v ∷ us) y e c a f h = false-true h

-- the end of a tag
hollow-fits : (to : State) (s : List RawName) → sort_of to ≡ at_content → AllClosable s → Fits to (after_hollow s)
hollow-fits to [] e a = tt
hollow-fits to (m ∷ s) e a = (e, a)

name-fits : (r : Rules) (st to : State) (b : ℕ) (s : List RawName) (n : RawName) (us : List Token) (y : Sort) → turn st b ≡ leads to us → calm st ≡ true
    → sort_of st ≡ at_name → SoFar st n → AllClosable s
    → sort_of to ≡ y → may_move at_name us y ≡ true → Fits to (nest_all r (naming s n) us)
unfolding nest
name-fits r st to b s n [] at_tag e c k g a f h = (inr (f, so_far-closable st n g (name-done st to b [] e refl k c)), a)
name-fits r st to b s n (token.NameByte x ∷ []) at_name e c k g a f h = (inl (f, next-so_far st to b x n e c k g), a)
name-fits r st to b s n (token.TagEnds true ∷ []) at_content e c k g a f h = hollow-fits to s f a
name-fits r st to b s n (token.TagEnds false ∷ []) at_content e c k g a f h =
    (f, (so_far-closable st n g (name-done st to b (token.TagEnds false ∷ []) e refl k c), a))
name-fits r st to b s n us y e c k g a f h = false-true h

named-fits : (r : Rules) (to : State) (s : List RawName) (n : RawName) (us : List Token) (y : Sort) → Closable n → AllClosable s → sort_of to ≡ y
    → may_move at_tag us y ≡ true → Fits to (nest_all r (naming s n) us)
unfolding nest
named-fits r to s n [] at_tag g a f h = (inr (f, g), a)
named-fits r to s n (token.AttrOpens x ∷ []) at_attribute g a f h = cond-fits to (nat_lt 0 r.attributes) (naming_attribute s n 1) (λ t. (f, g, a))
named-fits r to s n (token.TagEnds true ∷ []) at_content g a f h = hollow-fits to s f a
named-fits r to s n (token.TagEnds false ∷ []) at_content g a f h = (f, (g, a))
named-fits r to s n us y g a f h = false-true h

tag-fits : (r : Rules) (to : State) (s : List RawName) (n : RawName) (k : ℕ) (us : List Token) (y : Sort) → Closable n → AllClosable s → sort_of to ≡ y
    → may_move at_tag us y ≡ true → Fits to (nest_all r (in_tag s n k) us)
unfolding nest
tag-fits r to s n k [] at_tag g a f h = (f, g, a)
tag-fits r to s n k (token.AttrOpens x ∷ []) at_attribute g a f h = cond-fits to (nat_lt k r.attributes) (naming_attribute s n (k + 1)) (λ t. (f, g, a))
tag-fits r to s n k (token.TagEnds true ∷ []) at_content g a f h = hollow-fits to s f a
tag-fits r to s n k (token.TagEnds false ∷ []) at_content g a f h = (f, (g, a))
tag-fits r to s n k us y g a f h = false-true h

attribute-fits : (r : Rules) (to : State) (s : List RawName) (n : RawName) (k : ℕ) (us : List Token) (y : Sort) → Closable n → AllClosable s → sort_of to ≡ y
    → may_move at_attribute us y ≡ true
    → Fits to (nest_all r (naming_attribute s n k) us)
unfolding nest
attribute-fits r to s n k [] at_attribute g a f h = (f, g, a)
attribute-fits r to s n k (token.AttrByte x ∷ []) at_attribute g a f h = (f, g, a)
attribute-fits r to s n k (token.ValueOpens ∷ []) at_value g a f h = (f, g, a)
attribute-fits r to s n k us y g a f h = false-true h

value-fits : (r : Rules) (to : State) (s : List RawName) (n : RawName) (k : ℕ) (us : List Token) (y : Sort) → Closable n → AllClosable s → sort_of to ≡ y
    → may_move at_value us y ≡ true → Fits to (nest_all r (in_value s n k) us)
unfolding nest
value-fits r to s n k [] at_value g a f h = (f, g, a)
value-fits r to s n k (token.Value x ∷ []) at_value g a f h = (f, g, a)
value-fits r to s n k (token.ValueEnds ∷ []) at_tag g a f h = (f, g, a)
value-fits r to s n k us y g a f h = false-true h

-- after the end tag
ended-fits : (st to : State) (b : ℕ) (s : List RawName) → turn st b ≡ leads to (token.CloseEnds ∷ []) → sort_of to ≡ at_content → AllClosable s
    → Fits to (inside s)
ended-fits st to b [] e f a = ended-words st to b e
ended-fits st to b (m ∷ s) e f a = (f, a)

closing-fits : (r : Rules) (st to : State) (b : ℕ) (s : List RawName) (m : List ℕ) (us : List Token) (y : Sort) → turn st b ≡ leads to us → calm st ≡ true
    → sort_of st ≡ at_ending → CloseReady st m → AllClosable s
    → sort_of to ≡ y → may_move at_ending us y ≡ true → FitsNext to (nest_all r (closing s m) us)
unfolding nest
closing-fits r st to b s [] [] at_ending e c k g a f h = inl ((f, (to, refl, (ending-still st to b e k c).1), a))
closing-fits r st to b s (x ∷ m) [] at_ending e c k g a f h = inr (ending-still st to b e k c).0
closing-fits r st to b s [] (token.NameByte x ∷ []) at_ending e c k g a f h = inl (tt)
closing-fits r st to b s (y ∷ m) (token.NameByte x ∷ []) at_ending e c k g a f h =
    inl (cond-fits to (x == y) (closing s m) (λ i. (f, next-ready st to b x y m e c (eqb-true x y i) g, a)))
closing-fits r st to b s [] (token.CloseEnds ∷ []) at_content e c k g a f h = inl (ended-fits st to b s e f a)
closing-fits r st to b s (y ∷ m) (token.CloseEnds ∷ []) at_content e c k g a f h = inl (tt)
closing-fits r st to b s m us y e c k g a f h = false-true h

-- the nesting is within a stream
abbrev pub IsOpen : Nest → Type 0
IsOpen (inside []) = ⊥
IsOpen lost = ⊥
IsOpen n = Unit {0}

pub fits-next : (r : Rules) (st to : State) (b : ℕ) (n : Nest) (us : List Token) → turn st b ≡ leads to us → calm st ≡ true → IsOpen n → Fits st n
    → FitsNext to (nest_all r n us)
fits-next r st to b n us e c o h =
    let l : Led st b (leads to us) = subst (Led st b) e (turn-led st b c) in by n o h l.0
  where
    by : (n : Nest) → IsOpen n → Fits st n → may_move (sort_of st) us (sort_of to) ≡ true → FitsNext to (nest_all r n us)
    by start o (inl k) m = inl (begin-fits r st to b us (sort_of to) e c refl (subst (λ (x : Sort). may_move x us (sort_of to) ≡ true) k m))
    by start o (inr k) m = inl (prolog-fits r st to b us (sort_of to) e c refl (subst (λ (x : Sort). may_move x us (sort_of to) ≡ true) k m))
    by declared o k m = inl (declared-fits r st to b us (sort_of to) e c refl (subst (λ (x : Sort). may_move x us (sort_of to) ≡ true) k m))
    by (inside []) o k m = absurd o
    by (inside (x ∷ s)) o (k, a) m = inl (content-fits r st to b x s us (sort_of to) e c a refl (subst (λ (z : Sort). may_move z us (sort_of to) ≡ true) k m))
    by (naming s n) o (inl (k, g), a) m =
        inl (name-fits r st to b s n us (sort_of to) e c k g a refl (subst (λ (z : Sort). may_move z us (sort_of to) ≡ true) k m))
    by (naming s n) o (inr (k, g), a) m = inl (named-fits r to s n us (sort_of to) g a refl (subst (λ (z : Sort). may_move z us (sort_of to) ≡ true) k m))
    by (in_tag s n i) o (k, g, a) m = inl (tag-fits r to s n i us (sort_of to) g a refl (subst (λ (z : Sort). may_move z us (sort_of to) ≡ true) k m))
    by (naming_attribute s n i) o (k, g, a) m =
        inl (attribute-fits r to s n i us (sort_of to) g a refl (subst (λ (z : Sort). may_move z us (sort_of to) ≡ true) k m))
    by (in_value s n i) o (k, g, a) m = inl (value-fits r to s n i us (sort_of to) g a refl (subst (λ (z : Sort). may_move z us (sort_of to) ≡ true) k m))
    by (closing s i) o (k, g, a) m = closing-fits r st to b s i us (sort_of to) e c k g a refl (subst (λ (z : Sort). may_move z us (sort_of to) ≡ true) k m)
    by lost o k m = absurd o
