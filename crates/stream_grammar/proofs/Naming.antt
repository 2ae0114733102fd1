-- The bytes of a tag's name are kept as those of an end tag's.
use Rattle.std.proofs.Common.{◌≡◌, ℕ, List, [], ◌∷◌, ◌++◌, refl, sym, ap, ◌∙◌, subst, Bool, true, false, not, cond, ◌&&◌, ◌||◌, ◌==◌, nat_lt}
use Rattle.stream_lex.specs.declared.Token.{Token}
use Rattle.stream_lex.specs.declared.Token.TheVariants as token
use Rattle.stream_lex.specs.declared.stages.Context.TheVariants.{Words, Value}
use Rattle.stream_lex.specs.declared.stages.Half.{Half}
use Rattle.stream_lex.specs.declared.stages.Half.TheVariants.{Prefix, Local}
use Rattle.stream_lex.specs.declared.stages.NameOwner.TheVariants.{StartTag, EndTag, Attribute}
use Rattle.stream_lex.specs.declared.stages.Literal.TheVariants as literal
use Rattle.stream_lex.specs.declared.stages.Stage.{Stage}
use Rattle.stream_lex.specs.declared.stages.Stage.TheVariants as stage
use Rattle.stream_lex.specs.declared.stages.State.{State}
use Rattle.stream_lex.specs.declared.kinds.Kind.{Kind}
use Rattle.stream_lex.specs.declared.kinds.Kind.TheVariants as kinds
use Rattle.stream_lex.specs.declared.characters.Pending.{Pending}
use Rattle.stream_lex.specs.declared.characters.Pending.TheVariants as pending
use Rattle.stream_lex.specs.declared.characters.Reach.{Reach}
use Rattle.stream_lex.specs.declared.characters.Reach.TheVariants.{Whole, Begun, Broken}
use Rattle.stream_lex.specs.grammar.Classes.{has_between, class_of}
use Rattle.stream_lex.specs.grammar.Kinds.{ascii_kind, is_name_start}
use Rattle.stream_lex.specs.machine.Characters.{reach}
use Rattle.stream_lex.specs.machine.Machine.{Turn, ascii, in_name, in_tag, allowed_at, voice, through}
use Rattle.stream_lex.specs.machine.Turns.{Outcome, leads, fails, at, settled, turn_ascii, turn_wide, turn}
use Rattle.stream_lex.proofs.Lists.{false-true}
use Rattle.std.proofs.lemmas.Bool.{cond_both, and_parts}
use Rattle.stream_grammar.specs.grammar.Trees.{RawName}
use Rattle.stream_grammar.specs.machine.Framing.{is_after_end_name}
use Rattle.stream_grammar.specs.machine.Sorts.{Sort, at_name, at_ending}
use Rattle.stream_grammar.proofs.Sorts.{has_name}
use Rattle.stream_grammar.specs.machine.Sorts.{sort_of}
use Rattle.stream_grammar.proofs.Moving.{calm, Led, turn-led}
use Rattle.stream_grammar.proofs.Twins.{twin, end_mark, words, Twinned, first-twin, is_named, TwinnedNext, next-twin, EndsSo, ends-so}

-- Names byte by byte.

-- each byte tells itself as a name's
abbrev pub NamedRun : State → List ℕ → State → Type 0
NamedRun st [] to = st ≡ to
NamedRun st (x ∷ xs) to = (s1 : State) × (turn st x ≡ leads s1 (token.NameByte x ∷ [])) × NamedRun s1 xs to

pub run-snoc : (xs : List ℕ) (st s1 to : State) (x : ℕ) → NamedRun st xs s1 → turn s1 x ≡ leads to (token.NameByte x ∷ []) → NamedRun st (xs ++ x ∷ []) to
run-snoc [] st s1 to x e f = (to, subst (λ (s : State). turn s x ≡ leads to (token.NameByte x ∷ [])) (sym e) f, refl)
run-snoc (y ∷ ys) st s1 to x (s2, g, h) f = (s2, g, run-snoc ys s2 s1 to x h f)

-- the bytes and `>` end an end tag
abbrev pub CloseReady : State → List ℕ → Type 0
CloseReady st m = (s1 : State) × NamedRun st m s1 × (turn s1 62 ≡ leads words (token.CloseEnds ∷ []))

-- the name may be an end tag's
abbrev pub Closable : RawName → Type 0
Closable n = (s1 : State) × (turn end_mark n.0 ≡ leads s1 (token.CloseOpens n.0 ∷ [])) × CloseReady s1 n.1

-- what has come of it reads as an end tag's name
abbrev pub SoFar : State → RawName → Type 0
SoFar st n = (s1 : State) × (turn end_mark n.0 ≡ leads s1 (token.CloseOpens n.0 ∷ [])) × NamedRun s1 n.1 (twin st)

abbrev pub AllClosable : List RawName → Type 0
AllClosable [] = Unit {0}
AllClosable (n ∷ st) = Closable n × AllClosable st

-- The end of a name.

abbrev pub Ends : State → Type 0
Ends st = turn st 62 ≡ leads words (token.CloseEnds ∷ [])

abbrev EndsNamed : State → Outcome → Type 0
EndsNamed st (leads to us) = has_name us ≡ false → Ends (twin st)
EndsNamed st (fails f) = Unit {0}

name-ends-at : (h : Half) (r : Bool) → r ≡ false → Ends (at (stage.Name EndTag h) pending.Nothing r)
unfolding turn_ascii ascii_kind ascii in_name
name-ends-at Prefix true e = absurd (let bad : true ≡ false = e in cc)
name-ends-at Local true e = absurd (let bad : true ≡ false = e in cc)
name-ends-at Prefix false e = refl
name-ends-at Local false e = refl

not-returned : (r : Bool) → (not r || false) ≡ true → r ≡ false
not-returned true h = sym h
not-returned false h = refl

cond-named : (st : State) (t : Bool) (to : State) (b : ℕ) (o : Outcome) → EndsNamed st o → EndsNamed st (cond t (leads to (token.NameByte b ∷ [])) o)
cond-named st true to b o h = λ bad. false-true (sym bad)
cond-named st false to b o h = h

colon-turn : (r : Bool) (b : ℕ) (k : Kind) → EndsNamed (at (stage.Colon StartTag) pending.Nothing r) (settled false (ascii (stage.Colon StartTag) k b))
unfolding ascii
colon-turn r b k = cond_both (is_name_start k) _ _ (λ (t : Turn). EndsNamed (at (stage.Colon StartTag) pending.Nothing r) (settled false t))
    (λ e bad. false-true (sym bad)) (λ e. tt)

colon-space : (r : Bool) → EndsNamed (at (stage.Colon StartTag) pending.Nothing r) (settled true (ascii (stage.Colon StartTag) kinds.Space 10))
unfolding ascii
colon-space r = tt

colon-ascii : (r : Bool) (b : ℕ) → r ≡ false
    → EndsNamed (at (stage.Colon StartTag) pending.Nothing r) (turn_ascii (at (stage.Colon StartTag) pending.Nothing r) b)
unfolding turn_ascii ascii_kind
colon-ascii true b e = absurd (let bad : true ≡ false = e in cc)
colon-ascii false b e =
    cond_both (b == 13) _ _ (EndsNamed (at (stage.Colon StartTag) pending.Nothing false)) (λ g. colon-space false) (λ g. colon-turn false b (ascii_kind b))

name-wide : (s : Stage) (p : Pending) (r : Bool) (b : ℕ) (x : Reach) → is_named (sort_of (at s p r)) ≡ true → EndsNamed (at s p r) (turn_wide (at s p r) b x)
unfolding turn_wide allowed_at voice through
name-wide (stage.Name StartTag Prefix) pending.Nothing r b (Begun q low high) h =
    cond-named (at (stage.Name StartTag Prefix) pending.Nothing r) (has_between (class_of (allowed_at (stage.Name StartTag Prefix))) low high)
    (at (stage.Name StartTag Prefix) q r) b _ tt
name-wide (stage.Name StartTag Prefix) pending.Nothing r b (Whole n) h =
    cond-named (at (stage.Name StartTag Prefix) pending.Nothing r) (has_between (class_of (allowed_at (stage.Name StartTag Prefix))) n n)
    (at (through (stage.Name StartTag Prefix)) pending.Nothing false) b _ tt
name-wide (stage.Name StartTag Prefix) pending.Nothing r b Broken h = tt
name-wide (stage.Name StartTag Prefix) p r b (Begun q low high) h =
    cond-named (at (stage.Name StartTag Prefix) p r) (has_between (class_of (allowed_at (stage.Name StartTag Prefix))) low high)
    (at (stage.Name StartTag Prefix) q r) b _ tt
name-wide (stage.Name StartTag Prefix) p r b (Whole n) h =
    cond-named (at (stage.Name StartTag Prefix) p r) (has_between (class_of (allowed_at (stage.Name StartTag Prefix))) n n)
    (at (through (stage.Name StartTag Prefix)) pending.Nothing false) b _ tt
name-wide (stage.Name StartTag Prefix) p r b Broken h = tt
name-wide (stage.Name StartTag Local) pending.Nothing r b (Begun q low high) h =
    cond-named (at (stage.Name StartTag Local) pending.Nothing r) (has_between (class_of (allowed_at (stage.Name StartTag Local))) low high)
    (at (stage.Name StartTag Local) q r) b _ tt
name-wide (stage.Name StartTag Local) pending.Nothing r b (Whole n) h =
    cond-named (at (stage.Name StartTag Local) pending.Nothing r) (has_between (class_of (allowed_at (stage.Name StartTag Local))) n n)
    (at (through (stage.Name StartTag Local)) pending.Nothing false) b _ tt
name-wide (stage.Name StartTag Local) pending.Nothing r b Broken h = tt
name-wide (stage.Name StartTag Local) p r b (Begun q low high) h =
    cond-named (at (stage.Name StartTag Local) p r) (has_between (class_of (allowed_at (stage.Name StartTag Local))) low high)
    (at (stage.Name StartTag Local) q r) b _ tt
name-wide (stage.Name StartTag Local) p r b (Whole n) h =
    cond-named (at (stage.Name StartTag Local) p r) (has_between (class_of (allowed_at (stage.Name StartTag Local))) n n)
    (at (through (stage.Name StartTag Local)) pending.Nothing false) b _ tt
name-wide (stage.Name StartTag Local) p r b Broken h = tt
name-wide (stage.Colon StartTag) pending.Nothing r b (Begun q low high) h =
    cond-named (at (stage.Colon StartTag) pending.Nothing r) (has_between (class_of (allowed_at (stage.Colon StartTag))) low high)
    (at (stage.Colon StartTag) q r) b _ tt
name-wide (stage.Colon StartTag) pending.Nothing r b (Whole n) h =
    cond-named (at (stage.Colon StartTag) pending.Nothing r) (has_between (class_of (allowed_at (stage.Colon StartTag))) n n)
    (at (through (stage.Colon StartTag)) pending.Nothing false) b _ tt
name-wide (stage.Colon StartTag) pending.Nothing r b Broken h = tt
name-wide (stage.Colon StartTag) p r b (Begun q low high) h =
    cond-named (at (stage.Colon StartTag) p r) (has_between (class_of (allowed_at (stage.Colon StartTag))) low high) (at (stage.Colon StartTag) q r) b _ tt
name-wide (stage.Colon StartTag) p r b (Whole n) h = cond-named (at (stage.Colon StartTag) p r) (has_between (class_of (allowed_at (stage.Colon StartTag))) n n)
    (at (through (stage.Colon StartTag)) pending.Nothing false) b _ tt
name-wide (stage.Colon StartTag) p r b Broken h = tt
name-wide stage.StartLess pending.Nothing r b x h = false-true h
name-wide stage.StartLess p r b (Begun q low high) h = cond-named (at stage.StartLess p r) (has_between (class_of (allowed_at stage.StartLess)) low high)
    (at stage.StartLess q r) b _ tt
name-wide stage.StartLess p r b (Whole n) h =
    cond-named (at stage.StartLess p r) (has_between (class_of (allowed_at stage.StartLess)) n n) (at (through stage.StartLess) pending.Nothing false) b _ tt
name-wide stage.StartLess p r b Broken h = tt
name-wide stage.PrologLess pending.Nothing r b x h = false-true h
name-wide stage.PrologLess p r b (Begun q low high) h = cond-named (at stage.PrologLess p r) (has_between (class_of (allowed_at stage.PrologLess)) low high)
    (at stage.PrologLess q r) b _ tt
name-wide stage.PrologLess p r b (Whole n) h =
    cond-named (at stage.PrologLess p r) (has_between (class_of (allowed_at stage.PrologLess)) n n) (at (through stage.PrologLess) pending.Nothing false) b _ tt
name-wide stage.PrologLess p r b Broken h = tt
name-wide stage.Less pending.Nothing r b x h = false-true h
name-wide stage.Less p r b (Begun q low high) h = cond-named (at stage.Less p r) (has_between (class_of (allowed_at stage.Less)) low high) (at stage.Less q r) b
    _ tt
name-wide stage.Less p r b (Whole n) h =
    cond-named (at stage.Less p r) (has_between (class_of (allowed_at stage.Less)) n n) (at (through stage.Less) pending.Nothing false) b _ tt
name-wide stage.Less p r b Broken h = tt
name-wide (stage.Text Words) pending.Nothing r b x h = false-true h
name-wide (stage.Text (Value q)) pending.Nothing r b x h = false-true h
name-wide (stage.Hash Words) pending.Nothing r b x h = false-true h
name-wide (stage.Hash (Value q)) pending.Nothing r b x h = false-true h
name-wide (stage.HashX Words) pending.Nothing r b x h = false-true h
name-wide (stage.HashX (Value q)) pending.Nothing r b x h = false-true h
name-wide (stage.Reference Words l) pending.Nothing r b x h = false-true h
name-wide (stage.Number Words base v) pending.Nothing r b x h = false-true h
name-wide (stage.Reference (Value q) l) pending.Nothing r b x h = false-true h
name-wide (stage.Number (Value q) base v) pending.Nothing r b x h = false-true h
name-wide (stage.Fixed literal.Xml at) pending.Nothing r b x h = false-true h
name-wide (stage.Fixed w at) pending.Nothing r b x h = false-true h
name-wide (stage.Name EndTag u) pending.Nothing r b x h = false-true h
name-wide (stage.Colon EndTag) pending.Nothing r b x h = false-true h
name-wide (stage.Name Attribute u) pending.Nothing r b x h = false-true h
name-wide (stage.Colon Attribute) pending.Nothing r b x h = false-true h
name-wide s pending.Nothing r b x h = false-true h
name-wide (stage.Text Words) p r b x h = false-true h
name-wide (stage.Text (Value q)) p r b x h = false-true h
name-wide (stage.Hash Words) p r b x h = false-true h
name-wide (stage.Hash (Value q)) p r b x h = false-true h
name-wide (stage.HashX Words) p r b x h = false-true h
name-wide (stage.HashX (Value q)) p r b x h = false-true h
name-wide (stage.Reference Words l) p r b x h = false-true h
name-wide (stage.Number Words base v) p r b x h = false-true h
name-wide (stage.Reference (Value q) l) p r b x h = false-true h
name-wide (stage.Number (Value q) base v) p r b x h = false-true h
name-wide (stage.Fixed literal.Xml at) p r b x h = false-true h
name-wide (stage.Fixed w at) p r b x h = false-true h
name-wide (stage.Name EndTag u) p r b x h = false-true h
name-wide (stage.Colon EndTag) p r b x h = false-true h
name-wide (stage.Name Attribute u) p r b x h = false-true h
name-wide (stage.Colon Attribute) p r b x h = false-true h
name-wide s p r b x h = false-true h

ends-always : (st : State) (o : Outcome) → Ends (twin st) → EndsNamed st o
ends-always st (leads to us) e = λ h. e
ends-always st (fails f) e = tt

-- a name that goes no further may be an end tag's
name-ends : (s : Stage) (p : Pending) (r : Bool) (b : ℕ) → is_named (sort_of (at s p r)) ≡ true → calm (at s p r) ≡ true
    → EndsNamed (at s p r) (turn (at s p r) b)
name-ends (stage.Name StartTag Prefix) pending.Nothing r b h c =
    ends-always (at (stage.Name StartTag Prefix) pending.Nothing r) _ (name-ends-at Prefix r (not-returned r c))
name-ends (stage.Name StartTag Local) pending.Nothing r b h c =
    ends-always (at (stage.Name StartTag Local) pending.Nothing r) _ (name-ends-at Local r (not-returned r c))
name-ends (stage.Colon StartTag) pending.Nothing r b h c =
    cond_both (nat_lt b 128) _ _ (EndsNamed (at (stage.Colon StartTag) pending.Nothing r)) (λ e. colon-ascii r b (not-returned r c))
    (λ e. name-wide (stage.Colon StartTag) pending.Nothing r b (reach pending.Nothing b) h)
name-ends s (pending.One x) r b h c = name-wide s (pending.One x) r b (reach (pending.One x) b) h
name-ends s (pending.Two x y) r b h c = name-wide s (pending.Two x y) r b (reach (pending.Two x y) b) h
name-ends s (pending.Three x y z) r b h c = name-wide s (pending.Three x y z) r b (reach (pending.Three x y z) b) h
name-ends (stage.Text Words) pending.Nothing r b h c = false-true h
name-ends (stage.Text (Value q)) pending.Nothing r b h c = false-true h
name-ends (stage.Hash Words) pending.Nothing r b h c = false-true h
name-ends (stage.Hash (Value q)) pending.Nothing r b h c = false-true h
name-ends (stage.HashX Words) pending.Nothing r b h c = false-true h
name-ends (stage.HashX (Value q)) pending.Nothing r b h c = false-true h
name-ends (stage.Reference Words l) pending.Nothing r b h c = false-true h
name-ends (stage.Number Words base v) pending.Nothing r b h c = false-true h
name-ends (stage.Reference (Value q) l) pending.Nothing r b h c = false-true h
name-ends (stage.Number (Value q) base v) pending.Nothing r b h c = false-true h
name-ends (stage.Fixed literal.Xml at) pending.Nothing r b h c = false-true h
name-ends (stage.Fixed w at) pending.Nothing r b h c = false-true h
name-ends (stage.Name EndTag u) pending.Nothing r b h c = false-true h
name-ends (stage.Colon EndTag) pending.Nothing r b h c = false-true h
name-ends (stage.Name Attribute u) pending.Nothing r b h c = false-true h
name-ends (stage.Colon Attribute) pending.Nothing r b h c = false-true h
name-ends s pending.Nothing r b h c = false-true h

pub name-done : (st to : State) (b : ℕ) (us : List Token) → turn st b ≡ leads to us → has_name us ≡ false → sort_of st ≡ at_name → calm st ≡ true
    → Ends (twin st)
name-done st to b us e h k c =
    let f : EndsNamed st (leads to us) = subst (EndsNamed st) e (name-ends st.stage st.pending st.returned b (ap is_named k) c) in f h

pub so_far-closable : (st : State) (n : RawName) → SoFar st n → Ends (twin st) → Closable n
so_far-closable st n (s1, e, run) f = (s1, e, (twin st, run, f))

-- Steps of names.

leads-same : (s t : State) (us vs : List Token) → leads s us ≡ leads t vs → s ≡ t
leads-same s t us vs e = ap state_of e
  where
    state_of : Outcome → State
    state_of (leads x ws) = x
    state_of (fails f) = end_mark

pub first-so_far : (st to : State) (b x : ℕ) → turn st b ≡ leads to (token.TagOpens x ∷ []) → calm st ≡ true → SoFar to (x, [])
first-so_far st to b x e c =
    let t : turn end_mark b ≡ leads (twin to) (token.CloseOpens x ∷ []) = subst (λ (o : Outcome). Twinned o (turn end_mark b)) e (first-twin st b c) in
    let own = let l : Led st b (leads to (token.TagOpens x ∷ [])) = subst (Led st b) e (turn-led st b c) in l.1 in
    (twin to, subst (λ (y : ℕ). turn end_mark y ≡ leads (twin to) (token.CloseOpens x ∷ [])) (sym own) t, refl)

pub next-so_far : (st to : State) (b x : ℕ) (n : RawName) → turn st b ≡ leads to (token.NameByte x ∷ []) → calm st ≡ true → sort_of st ≡ at_name → SoFar st n
    → SoFar to (n.0, n.1 ++ x ∷ [])
next-so_far st to b x n e c k (s1, f, run) =
    let t : turn (twin st) b ≡ leads (twin to) (token.NameByte x ∷ []) =
    subst (λ (o : Outcome). TwinnedNext o (turn (twin st) b)) e (next-twin st b (ap is_named k)) in
    let own = let l : Led st b (leads to (token.NameByte x ∷ [])) = subst (Led st b) e (turn-led st b c) in l.1 in
    (s1, f, run-snoc n.1 s1 (twin st) (twin to) x run (subst (λ (y : ℕ). turn (twin st) y ≡ leads (twin to) (token.NameByte x ∷ [])) (sym own) t))

is_ending : Sort → Bool
is_ending at_ending = true
is_ending x = false

twin-same : (s : Stage) (p : Pending) (r : Bool) → is_ending (sort_of (at s p r)) ≡ true → twin (at s p r) ≡ at s p r
unfolding is_ending through
twin-same (stage.Name StartTag Prefix) pending.Nothing r h = false-true h
twin-same (stage.Name StartTag Prefix) p r h = false-true h
twin-same (stage.Name StartTag Local) pending.Nothing r h = false-true h
twin-same (stage.Name StartTag Local) p r h = false-true h
twin-same (stage.Colon StartTag) pending.Nothing r h = false-true h
twin-same (stage.Colon StartTag) p r h = false-true h
twin-same stage.StartLess pending.Nothing r h = false-true h
twin-same stage.StartLess p r h = false-true h
twin-same stage.PrologLess pending.Nothing r h = false-true h
twin-same stage.PrologLess p r h = false-true h
twin-same stage.Less pending.Nothing r h = false-true h
twin-same stage.Less p r h = false-true h
twin-same (stage.Name EndTag u) p r h = refl
twin-same (stage.Colon EndTag) p r h = refl
twin-same (stage.Name Attribute u) p r h = refl
twin-same (stage.Colon Attribute) p r h = refl
twin-same s p r h = refl

-- an end tag's name that begins as that of the open element
pub first-ready : (st to : State) (b x : ℕ) (m : RawName) → turn st b ≡ leads to (token.CloseOpens x ∷ []) → calm st ≡ true → sort_of to ≡ at_ending → x ≡ m.0
    → Closable m → CloseReady to m.1
unfolding is_ending
first-ready st to b x m e c k same (s1, f, ready) =
    let t : turn end_mark b ≡ leads (twin to) (token.CloseOpens x ∷ []) = subst (λ (o : Outcome). Twinned o (turn end_mark b)) e (first-twin st b c) in
    let own = let l : Led st b (leads to (token.CloseOpens x ∷ [])) = subst (Led st b) e (turn-led st b c) in l.1 in
    let g : turn end_mark b ≡ leads s1 (token.CloseOpens m.0 ∷ []) = subst (λ (y : ℕ). turn end_mark y ≡ leads s1 (token.CloseOpens m.0 ∷ [])) (sym same
    ∙ own) f in
    let h : s1 ≡ to = leads-same s1 (twin to) _ _ (sym g ∙ t) ∙ twin-same to.stage to.pending to.returned (ap is_ending k) in
    subst (λ (s : State). CloseReady s m.1) h ready

-- and goes on as it
pub next-ready : (st to : State) (b x y : ℕ) (m : List ℕ) → turn st b ≡ leads to (token.NameByte x ∷ []) → calm st ≡ true → x ≡ y → CloseReady st (y ∷ m)
    → CloseReady to m
next-ready st to b x y m e c same (s2, (s1, f, run), ends) =
    let own = let l : Led st b (leads to (token.NameByte x ∷ [])) = subst (Led st b) e (turn-led st b c) in l.1 in
    let g : turn st b ≡ leads s1 (token.NameByte y ∷ []) = subst (λ (z : ℕ). turn st z ≡ leads s1 (token.NameByte y ∷ [])) (sym same ∙ own) f in
    (s2, subst (λ (s : State). NamedRun s m s2) (leads-same s1 to _ _ (sym g ∙ e)) run, ends)

pub ended-words : (st to : State) (b : ℕ) → turn st b ≡ leads to (token.CloseEnds ∷ []) → to ≡ words
ended-words st to b e = let f : EndsSo (leads to (token.CloseEnds ∷ [])) = subst EndsSo e (ends-so st b) in f

-- A byte of an end tag that tells nothing comes after its name.

abbrev Still : Outcome → Type 0
Still (leads to []) = (is_after_end_name to.stage ≡ true) × (turn to 62 ≡ leads words (token.CloseEnds ∷ []))
Still o = Unit {0}

named-end : (r : Bool) → turn (at stage.EndTagNamed pending.Nothing r) 62 ≡ leads words (token.CloseEnds ∷ [])
unfolding turn_ascii ascii_kind ascii in_tag
named-end true = refl
named-end false = refl

still-name : (h : Half) (k : Kind) (b : ℕ) → Still (settled false (ascii (stage.Name EndTag h) k b))
unfolding ascii in_name
still-name Prefix kinds.Space b = (refl, named-end false)
still-name Prefix k b = tt
still-name Local kinds.Space b = (refl, named-end false)
still-name Local k b = tt

still-return : (h : Half) → Still (settled true (ascii (stage.Name EndTag h) kinds.Space 10))
unfolding ascii in_name
still-return Prefix = (refl, named-end true)
still-return Local = (refl, named-end true)

still-colon : (k : Kind) (b : ℕ) → Still (settled false (ascii (stage.Colon EndTag) k b))
unfolding ascii
still-colon kinds.Space b = tt
still-colon k b = tt

still-colon_return : Still (settled true (ascii (stage.Colon EndTag) kinds.Space 10))
unfolding ascii
still-colon_return = tt

still-named : (k : Kind) (b : ℕ) → Still (settled false (ascii stage.EndTagNamed k b))
unfolding ascii in_tag
still-named kinds.Space b = (refl, named-end false)
still-named k b = tt

still-named_return : Still (settled true (ascii stage.EndTagNamed kinds.Space 10))
unfolding ascii in_tag
still-named_return = (refl, named-end true)

-- between two characters
still-ascii : (s : Stage) (r : Bool) (b : ℕ) → (r ≡ true → Still (leads (at s pending.Nothing false) [])) → Still (settled true (ascii s kinds.Space 10))
    → ((k : Kind) → Still (settled false (ascii s k b)))
    → Still (turn_ascii (at s pending.Nothing r) b)
unfolding turn_ascii ascii_kind
still-ascii s r b f g h =
    cond_both (r && b == 10) _ _ Still (λ e. f (and_parts r (b == 10) e).0) (λ e. cond_both (b == 13) _ _ Still (λ i. g) (λ i. h (ascii_kind b)))

never : {A : Type 0} (r : Bool) → r ≡ false → r ≡ true → A
never true e f = false-true (sym e)
never false e f = false-true f

still-wide : (s : Stage) (p : Pending) (r : Bool) (b : ℕ) (x : Reach) → is_ending (sort_of (at s p r)) ≡ true → Still (turn_wide (at s p r) b x)
unfolding is_ending turn_wide allowed_at voice through
still-wide (stage.Name EndTag Prefix) pending.Nothing r b (Begun q low high) h =
    cond_both (has_between (class_of (allowed_at (stage.Name EndTag Prefix))) low high) _ _ Still (λ e. tt) (λ e. tt)
still-wide (stage.Name EndTag Prefix) pending.Nothing r b (Whole n) h =
    cond_both (has_between (class_of (allowed_at (stage.Name EndTag Prefix))) n n) _ _ Still (λ e. tt) (λ e. tt)
still-wide (stage.Name EndTag Prefix) pending.Nothing r b Broken h = tt
still-wide (stage.Name EndTag Prefix) p r b (Begun q low high) h =
    cond_both (has_between (class_of (allowed_at (stage.Name EndTag Prefix))) low high) _ _ Still (λ e. tt) (λ e. tt)
still-wide (stage.Name EndTag Prefix) p r b (Whole n) h = cond_both (has_between (class_of (allowed_at (stage.Name EndTag Prefix))) n n) _ _ Still (λ e. tt)
    (λ e. tt)
still-wide (stage.Name EndTag Prefix) p r b Broken h = tt
still-wide (stage.Name EndTag Local) pending.Nothing r b (Begun q low high) h =
    cond_both (has_between (class_of (allowed_at (stage.Name EndTag Local))) low high) _ _ Still (λ e. tt) (λ e. tt)
still-wide (stage.Name EndTag Local) pending.Nothing r b (Whole n) h =
    cond_both (has_between (class_of (allowed_at (stage.Name EndTag Local))) n n) _ _ Still (λ e. tt) (λ e. tt)
still-wide (stage.Name EndTag Local) pending.Nothing r b Broken h = tt
still-wide (stage.Name EndTag Local) p r b (Begun q low high) h =
    cond_both (has_between (class_of (allowed_at (stage.Name EndTag Local))) low high) _ _ Still (λ e. tt) (λ e. tt)
still-wide (stage.Name EndTag Local) p r b (Whole n) h = cond_both (has_between (class_of (allowed_at (stage.Name EndTag Local))) n n) _ _ Still (λ e. tt)
    (λ e. tt)
still-wide (stage.Name EndTag Local) p r b Broken h = tt
still-wide (stage.Colon EndTag) pending.Nothing r b (Begun q low high) h =
    cond_both (has_between (class_of (allowed_at (stage.Colon EndTag))) low high) _ _ Still (λ e. tt) (λ e. tt)
still-wide (stage.Colon EndTag) pending.Nothing r b (Whole n) h =
    cond_both (has_between (class_of (allowed_at (stage.Colon EndTag))) n n) _ _ Still (λ e. tt) (λ e. tt)
still-wide (stage.Colon EndTag) pending.Nothing r b Broken h = tt
still-wide (stage.Colon EndTag) p r b (Begun q low high) h = cond_both (has_between (class_of (allowed_at (stage.Colon EndTag))) low high) _ _ Still (λ e. tt)
    (λ e. tt)
still-wide (stage.Colon EndTag) p r b (Whole n) h = cond_both (has_between (class_of (allowed_at (stage.Colon EndTag))) n n) _ _ Still (λ e. tt) (λ e. tt)
still-wide (stage.Colon EndTag) p r b Broken h = tt
still-wide stage.EndTagMark pending.Nothing r b x h = false-true h
still-wide stage.EndTagMark p r b (Begun q low high) h = cond_both (has_between (class_of (allowed_at stage.EndTagMark)) low high) _ _ Still (λ e. tt) (λ e. tt)
still-wide stage.EndTagMark p r b (Whole n) h = cond_both (has_between (class_of (allowed_at stage.EndTagMark)) n n) _ _ Still (λ e. tt) (λ e. tt)
still-wide stage.EndTagMark p r b Broken h = tt
still-wide stage.EndTagNamed pending.Nothing r b (Begun q low high) h = tt
still-wide stage.EndTagNamed pending.Nothing r b (Whole n) h = tt
still-wide stage.EndTagNamed pending.Nothing r b Broken h = tt
still-wide stage.EndTagNamed p r b (Begun q low high) h = tt
still-wide stage.EndTagNamed p r b (Whole n) h = tt
still-wide stage.EndTagNamed p r b Broken h = tt
still-wide (stage.Text Words) pending.Nothing r b x h = false-true h
still-wide (stage.Text (Value q)) pending.Nothing r b x h = false-true h
still-wide (stage.Hash Words) pending.Nothing r b x h = false-true h
still-wide (stage.Hash (Value q)) pending.Nothing r b x h = false-true h
still-wide (stage.HashX Words) pending.Nothing r b x h = false-true h
still-wide (stage.HashX (Value q)) pending.Nothing r b x h = false-true h
still-wide (stage.Reference Words l) pending.Nothing r b x h = false-true h
still-wide (stage.Number Words base v) pending.Nothing r b x h = false-true h
still-wide (stage.Reference (Value q) l) pending.Nothing r b x h = false-true h
still-wide (stage.Number (Value q) base v) pending.Nothing r b x h = false-true h
still-wide (stage.Fixed literal.Xml at) pending.Nothing r b x h = false-true h
still-wide (stage.Fixed w at) pending.Nothing r b x h = false-true h
still-wide (stage.Name StartTag u) pending.Nothing r b x h = false-true h
still-wide (stage.Colon StartTag) pending.Nothing r b x h = false-true h
still-wide (stage.Name Attribute u) pending.Nothing r b x h = false-true h
still-wide (stage.Colon Attribute) pending.Nothing r b x h = false-true h
still-wide s pending.Nothing r b x h = false-true h
still-wide (stage.Text Words) p r b x h = false-true h
still-wide (stage.Text (Value q)) p r b x h = false-true h
still-wide (stage.Hash Words) p r b x h = false-true h
still-wide (stage.Hash (Value q)) p r b x h = false-true h
still-wide (stage.HashX Words) p r b x h = false-true h
still-wide (stage.HashX (Value q)) p r b x h = false-true h
still-wide (stage.Reference Words l) p r b x h = false-true h
still-wide (stage.Number Words base v) p r b x h = false-true h
still-wide (stage.Reference (Value q) l) p r b x h = false-true h
still-wide (stage.Number (Value q) base v) p r b x h = false-true h
still-wide (stage.Fixed literal.Xml at) p r b x h = false-true h
still-wide (stage.Fixed w at) p r b x h = false-true h
still-wide (stage.Name StartTag u) p r b x h = false-true h
still-wide (stage.Colon StartTag) p r b x h = false-true h
still-wide (stage.Name Attribute u) p r b x h = false-true h
still-wide (stage.Colon Attribute) p r b x h = false-true h
still-wide s p r b x h = false-true h

still : (s : Stage) (p : Pending) (r : Bool) (b : ℕ) → is_ending (sort_of (at s p r)) ≡ true → calm (at s p r) ≡ true → Still (turn (at s p r) b)
unfolding is_ending
still (stage.Name EndTag Prefix) pending.Nothing r b h c =
    cond_both (nat_lt b 128) _ _ Still
    (λ e. still-ascii (stage.Name EndTag Prefix) r b (never r (not-returned r c)) (still-return Prefix) (λ k. still-name Prefix k b))
    (λ e. still-wide (stage.Name EndTag Prefix) pending.Nothing r b (reach pending.Nothing b) h)
still (stage.Name EndTag Local) pending.Nothing r b h c =
    cond_both (nat_lt b 128) _ _ Still
    (λ e. still-ascii (stage.Name EndTag Local) r b (never r (not-returned r c)) (still-return Local) (λ k. still-name Local k b))
    (λ e. still-wide (stage.Name EndTag Local) pending.Nothing r b (reach pending.Nothing b) h)
still (stage.Colon EndTag) pending.Nothing r b h c =
    cond_both (nat_lt b 128) _ _ Still (λ e. still-ascii (stage.Colon EndTag) r b (never r (not-returned r c)) still-colon_return (λ k. still-colon k b))
    (λ e. still-wide (stage.Colon EndTag) pending.Nothing r b (reach pending.Nothing b) h)
still stage.EndTagNamed pending.Nothing r b h c =
    cond_both (nat_lt b 128) _ _ Still (λ e. still-ascii stage.EndTagNamed r b (λ e. (refl, named-end false)) still-named_return (λ k. still-named k b))
    (λ e. still-wide stage.EndTagNamed pending.Nothing r b (reach pending.Nothing b) h)
still s (pending.One x) r b h c = still-wide s (pending.One x) r b (reach (pending.One x) b) h
still s (pending.Two x y) r b h c = still-wide s (pending.Two x y) r b (reach (pending.Two x y) b) h
still s (pending.Three x y z) r b h c = still-wide s (pending.Three x y z) r b (reach (pending.Three x y z) b) h
still (stage.Text Words) pending.Nothing r b h c = false-true h
still (stage.Text (Value q)) pending.Nothing r b h c = false-true h
still (stage.Hash Words) pending.Nothing r b h c = false-true h
still (stage.Hash (Value q)) pending.Nothing r b h c = false-true h
still (stage.HashX Words) pending.Nothing r b h c = false-true h
still (stage.HashX (Value q)) pending.Nothing r b h c = false-true h
still (stage.Reference Words l) pending.Nothing r b h c = false-true h
still (stage.Number Words base v) pending.Nothing r b h c = false-true h
still (stage.Reference (Value q) l) pending.Nothing r b h c = false-true h
still (stage.Number (Value q) base v) pending.Nothing r b h c = false-true h
still (stage.Fixed literal.Xml at) pending.Nothing r b h c = false-true h
still (stage.Fixed w at) pending.Nothing r b h c = false-true h
still (stage.Name StartTag u) pending.Nothing r b h c = false-true h
still (stage.Colon StartTag) pending.Nothing r b h c = false-true h
still (stage.Name Attribute u) pending.Nothing r b h c = false-true h
still (stage.Colon Attribute) pending.Nothing r b h c = false-true h
still s pending.Nothing r b h c = false-true h

pub ending-still : (st to : State) (b : ℕ) → turn st b ≡ leads to [] → sort_of st ≡ at_ending → calm st ≡ true
    → (is_after_end_name to.stage ≡ true) × (turn to 62 ≡ leads words (token.CloseEnds ∷ []))
unfolding is_ending
ending-still st to b e k c = let f : Still (leads to []) = subst Still e (still st.stage st.pending st.returned b (ap is_ending k) c) in f
