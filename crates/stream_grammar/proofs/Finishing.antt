-- Each frame that is open has an end.
use Rattle.std.proofs.Common.{◌≡◌, ℕ, eq-eqb, ◌+◌, ◌*◌, ◌<◌, ◌≤◌, ◌⊎◌, inl, inr, List, [], ◌∷◌, ◌++◌, length, refl, sym, ap}
use Rattle.std.proofs.Common.{subst, append_assoc, Bool, true, false, not, cond, ◌||◌, ◌==◌, arith}
use Rattle.std.proofs.lemmas.Bool.{cond-true, cases_lt, ltb-true, lt-ltb, eqb-true}
use Rattle.std.proofs.lemmas.Bool.Decides.{nat_tests}
use Rattle.stream_lex.specs.declared.Token.{Token}
use Rattle.stream_lex.specs.declared.Token.TheVariants as token
use Rattle.stream_lex.specs.declared.LexFault.{LexFault}
use Rattle.stream_lex.specs.declared.LexFault.TheVariants.{NotWellFormed}
use Rattle.stream_lex.specs.declared.stages.Quote.{Quote}
use Rattle.stream_lex.specs.declared.stages.Context.{Context}
use Rattle.stream_lex.specs.declared.stages.Context.TheVariants.{Words, Value}
use Rattle.stream_lex.specs.declared.stages.Base.{Base}
use Rattle.stream_lex.specs.declared.stages.Base.TheVariants.{Decimal, Hexadecimal}
use Rattle.stream_lex.specs.declared.stages.Stage.{Stage}
use Rattle.stream_lex.specs.declared.stages.Stage.TheVariants as stage
use Rattle.stream_lex.specs.declared.stages.State.{State}
use Rattle.stream_lex.specs.declared.characters.Pending.TheVariants as pending
use Rattle.stream_lex.specs.grammar.Classes.{is_xml}
use Rattle.stream_lex.specs.grammar.Kinds.{ascii_kind, digit, base_of}
use Rattle.stream_lex.specs.grammar.Expressions.{all_said, value}
use Rattle.stream_lex.specs.grammar.Grammar.{text_token}
use Rattle.stream_lex.specs.machine.Machine.{goes, stops, in_number, ascii}
use Rattle.stream_lex.specs.machine.Machine.{yields as tells_and_goes}
use Rattle.stream_lex.specs.machine.Turns.{Outcome, leads, fails, at, settled, turn_ascii, turn}
use Rattle.stream_lex.specs.machine.Live.{is_live_stage, is_live}
use Rattle.stream_lex.specs.machine.Leading.{Left}
use Rattle.stream_lex.proofs.Lists.{false-true, cons_not_nil}
use Rattle.stream_lex.proofs.Numbers.{xml-bound, value-grows}
use Rattle.stream_lex.proofs.Living.{LeadsLive, live-parts}
use Rattle.stream_grammar.specs.grammar.Trees.{RawName, is_space}
use Rattle.stream_grammar.specs.declared.rules.Rules.{Rules}
use Rattle.stream_grammar.specs.machine.Nesting.{Nest, inside, naming, in_tag, naming_attribute, in_value, closing}
use Rattle.stream_grammar.specs.machine.Nesting.{lost, is_root, may_stand, nest, nest_all, Leaves}
use Rattle.stream_grammar.specs.machine.Framing.{begins_space, comes_to_space, is_empty_mark, goes_with}
use Rattle.stream_grammar.proofs.Nested.{Room, all-from}
use Rattle.stream_grammar.specs.machine.Sorts.{sort}
use Rattle.stream_grammar.proofs.Twins.{end_mark, words}
use Rattle.stream_grammar.proofs.Naming.{NamedRun, Closable, AllClosable}
use Rattle.stream_grammar.proofs.Fitting.{IsOpen}
use Rattle.stream_grammar.proofs.Following.{left-from, any-live, leaves-nothing, Tight, tight-from, IsSound, words-left}
use Rattle.stream_grammar.proofs.Running.{run, run_on, then_run, Way}
use Rattle.stream_grammar.proofs.Ways.{is_tag, is_value, is_content}
use Rattle.stream_grammar.proofs.InnerWays.{ends_empty, tag-way, AttributeEnds, ValueEnds, text-value_way, value-way, ContentEnds, words-way, content-way}

-- an end: bytes and tokens that end the stream from here
abbrev pub Done : Rules → State → Nest → Type 0
Done r st n = (text : List ℕ) × (ts : List Token) × Left st text (all_said ts) × Leaves r n ts × Tight st text ts

-- Steps back.

pub step-done : (r : Rules) (st to : State) (n : Nest) (b : ℕ) (us : List Token) → is_live st ≡ true → turn st b ≡ leads to us → IsOpen n → Room r n
    → Done r to (nest_all r n us) → Done r st n
step-done r st to n b us live e o room (text, vs, l, m, t) =
    let m1 : Leaves r n (us ++ vs) = all-from r n us vs room m in
    (b ∷ text, us ++ vs, left-from st to b us text vs live e l, m1, tight-from st to b us text vs live e (λ z. leaves-nothing r n (us ++ vs) o m1 z) t)

state_in : Outcome → State
state_in (leads s us) = s
state_in (fails f) = words

told_in : Outcome → List Token
told_in (leads s us) = us
told_in (fails f) = []

same-state : (s t : State) (us vs : List Token) → leads s us ≡ leads t vs → s ≡ t
unfolding state_in
same-state s t us vs e = ap state_in e

same-told : (s t : State) (us vs : List Token) → leads s us ≡ leads t vs → us ≡ vs
unfolding told_in
same-told s t us vs e = ap told_in e

back-nil : (us vs : List Token) → us ++ vs ≡ [] → vs ≡ []
back-nil [] vs e = e
back-nil (u ∷ us) vs e = absurd (let f : u ∷ (us ++ vs) ≡ [] = e in cc)

fails-leads : (f : LexFault) (s : State) (us : List Token) → fails f ≡ leads s us → ⊥
fails-leads f s us e = cc

-- bytes that lead to a state from which the text goes on
abbrev pub Carried : State → State → List ℕ → List Token → Type 0
Carried st to bs us = (text : List ℕ) (vs : List Token) → (vs ≡ [] → ⊥) → Left to text (all_said vs) → Tight to text vs
    → Left st (bs ++ text) (all_said (us ++ vs)) × Tight st (bs ++ text) (us ++ vs)

pub carry-step : (st s to : State) (b : ℕ) (bs : List ℕ) (us ws : List Token) → is_live st ≡ true → turn st b ≡ leads s us → Carried s to bs ws
    → Carried st to (b ∷ bs) (us ++ ws)
carry-step st s to b bs us ws live e c text vs some l t =
    let (m, u) = c text vs some l t in
    let same : us ++ (ws ++ vs) ≡ (us ++ ws) ++ vs = sym (append_assoc us ws vs) in (
      subst (λ (x : List Token). Left st (b ∷ (bs ++ text)) (all_said x)) same (left-from st s b us (bs ++ text) (ws ++ vs) live e m),
      subst (Tight st (b ∷ (bs ++ text))) same (tight-from st s b us (bs ++ text) (ws ++ vs) live e (λ z. some (back-nil ws vs (back-nil us (ws ++ vs) z))) u),
    )

pub carried : (bs : List ℕ) (st to : State) (us : List Token) → is_live st ≡ true → run st bs ≡ leads to us → Carried st to bs us
carried [] st to us live e =
    λ text vs some l t.
    let n : us ≡ [] = sym (same-told st to [] us e) in
    let s : to ≡ st = sym (same-state st to [] us e) in (
      subst (λ (x : List Token). Left st text (all_said (x ++ vs))) (sym n) (subst (λ (y : State). Left y text (all_said vs)) s l),
      subst (λ (x : List Token). Tight st text (x ++ vs)) (sym n) (subst (λ (y : State). Tight y text vs) s t),
    )
carried (b ∷ bs) st to us live e = by (λ s1 to1 ws l f. carried bs s1 to1 ws l f) (turn st b) refl e
  where
    last : ((s1 to1 : State) (ws : List Token) → is_live s1 ≡ true → run s1 bs ≡ leads to1 ws → Carried s1 to1 bs ws) → (s1 : State) (us1 : List Token)
        → turn st b ≡ leads s1 us1
        → (p : Outcome) → run s1 bs ≡ p → then_run us1 p ≡ leads to us → Carried st to (b ∷ bs) us
    last go s1 us1 f (leads s2 ws) g h =
        let t : s2 ≡ to = same-state s2 to _ _ h in
        subst (Carried st to (b ∷ bs)) (same-told s2 to _ _ h)
        (carry-step st s1 to b bs us1 ws live f (subst (λ (x : State). Carried s1 x bs ws) t (go s1 s2 ws (subst LeadsLive f (any-live st b live)) g)))
    last go s1 us1 f (fails x) g h = absurd (fails-leads x to us h)

    by : ((s1 to1 : State) (ws : List Token) → is_live s1 ≡ true → run s1 bs ≡ leads to1 ws → Carried s1 to1 bs ws) → (o : Outcome) → turn st b ≡ o
        → run_on o (λ s. run s bs) ≡ leads to us → Carried st to (b ∷ bs) us
    by go (leads s1 us1) f h = last go s1 us1 f (run s1 bs) refl h
    by go (fails x) f h = absurd (fails-leads x to us h)

run-done : (r : Rules) (st to : State) (n : Nest) (us : List Token) → is_live st ≡ true → Way st to us → IsOpen (nest_all r n us) → Room r n
    → Done r to (nest_all r n us) → Done r st n
run-done r st to n us live (bs, e) o room (text, vs, l, m, t) =
    let (k, u) = carried bs st to us live e text vs (λ z. leaves-nothing r (nest_all r n us) vs o m z) l t in
    (bs ++ text, us ++ vs, k, all-from r n us vs room m, u)

-- the same, where the nesting after it is known
pub run-to : (r : Rules) (st to : State) (n n1 : Nest) (us : List Token) → is_live st ≡ true → Way st to us → nest_all r n us ≡ n1 → IsOpen n1 → Room r n
    → Done r to n1 → Done r st n
run-to r st to n n1 us live w e o room d = run-done r st to n us live w (subst IsOpen (sym e) o) room (subst (Done r to) (sym e) d)

pub step-to : (r : Rules) (st to : State) (n n1 : Nest) (b : ℕ) (us : List Token) → is_live st ≡ true → turn st b ≡ leads to us → nest_all r n us ≡ n1
    → IsOpen n → Room r n → Done r to n1 → Done r st n
step-to r st to n n1 b us live e f o room d = step-done r st to n b us live e o room (subst (Done r to) (sym f) d)

-- End tags for all that is open.

live-words : is_live words ≡ true
unfolding is_live
live-words = refl

live-mark : is_live end_mark ≡ true
unfolding is_live
live-mark = refl

nest-end : (r : Rules) (s : List RawName) → nest_all r (closing s []) (token.CloseEnds ∷ []) ≡ inside s
unfolding nest
nest-end r s = refl

nest-name : (r : Rules) (s : List RawName) (x : ℕ) (m : List ℕ) → nest_all r (closing s (x ∷ m)) (token.NameByte x ∷ []) ≡ closing s m
unfolding nest
nest-name r s x m = cond-true (x == x) (closing s m) lost (eq-eqb x x refl)

nest-close : (r : Rules) (m : RawName) (s : List RawName) → nest_all r (inside (m ∷ s)) (token.CloseOpens m.0 ∷ []) ≡ closing s m.1
unfolding nest
nest-close r m s = cond-true (m.0 == m.0) (closing s m.1) lost (eq-eqb m.0 m.0 refl)

pub closing-done : (r : Rules) (s : List RawName) (m : List ℕ) (st s1 : State) → length s ≤ r.depth → is_live st ≡ true → NamedRun st m s1
    → turn s1 62 ≡ leads words (token.CloseEnds ∷ []) → Done r words (inside s) → Done r st (closing s m)
closing-done r s [] st s1 room live run ends d =
    step-to r st words (closing s []) (inside s) 62 (token.CloseEnds ∷ []) live
    (subst (λ (x : State). turn x 62 ≡ leads words (token.CloseEnds ∷ [])) (sym run) ends) (nest-end r s) tt room d
closing-done r s (x ∷ m) st s1 room live (s2, e, run) ends d =
    step-to r st s2 (closing s (x ∷ m)) (closing s m) x (token.NameByte x ∷ []) live e (nest-name r s x m) tt room
    (closing-done r s m s2 s1 room (subst LeadsLive e (any-live st x live)) run ends d)

pub room-outer : (r : Rules) (m : RawName) (s : List RawName) → length s ≤ r.depth → Room r (inside s)
room-outer r m [] h = tt
room-outer r m (x ∷ s) h = omega arith

mark-done : (r : Rules) (m : RawName) (s : List RawName) → Closable m → length s ≤ r.depth → Done r words (inside s) → Done r end_mark (inside (m ∷ s))
mark-done r m s (s1, e, (s2, run, ends)) room d =
    step-to r end_mark s1 (inside (m ∷ s)) (closing s m.1) m.0 (token.CloseOpens m.0 ∷ []) live-mark e (nest-close r m s) tt room
    (closing-done r s m.1 s1 s2 room (subst LeadsLive e (any-live end_mark m.0 live-mark)) run ends d)

pub closings : (r : Rules) (s : List RawName) → AllClosable s → Room r (inside s) → Done r words (inside s)
closings r [] a room = ([], [], words-left, refl, λ xs ys f l. nil-back xs ys (sym f))
  where
    nil-back : (xs ys : List ℕ) → xs ++ ys ≡ [] → ys ≡ []
    nil-back [] ys e = e
    nil-back (x ∷ xs) ys e = absurd (cons_not_nil x (xs ++ ys) e)
closings r (m ∷ s) a room = run-to r words end_mark (inside (m ∷ s)) (inside (m ∷ s)) [] live-words (words-way false) refl tt room
    (mark-done r m s a.0 room (closings r s a.1 (room-outer r m s room)))

-- from `</` on
marked : (r : Rules) (m : RawName) (s : List RawName) → AllClosable (m ∷ s) → length s ≤ r.depth → Done r end_mark (inside (m ∷ s))
marked r m s a room = mark-done r m s a.0 room (closings r s a.1 (room-outer r m s room))

-- The numbers of character references.

data Ten : Type 0 where
  nought : Ten
  two : Ten
  nine : Ten

ten : Ten → ℕ
ten nought = 48
ten two = 50
ten nine = 57

tens : List Ten → List ℕ
tens [] = []
tens (d ∷ ds) = ten d ∷ tens ds

number_at : Context → Base → ℕ → Bool → State
number_at p base v ret = at (stage.Number p base v) pending.Nothing ret

settled_number : Context → ℕ → Bool → Outcome
settled_number p v t = settled false (cond t (tells_and_goes (text_token p v ∷ []) (stage.Text p)) (stops NotWellFormed))

number-ends : (p : Context) (base : Base) (v : ℕ) (ret : Bool) → is_xml v ≡ true
    → turn (number_at p base v ret) 59 ≡ leads (at (stage.Text p) pending.Nothing false) (text_token p v ∷ [])
unfolding number_at settled_number turn_ascii ascii_kind ascii in_number
number-ends p base v true e = subst (λ (t : Bool). settled_number p v t ≡ leads (at (stage.Text p) pending.Nothing false) (text_token p v ∷ [])) (sym e) refl
number-ends p base v false e = subst (λ (t : Bool). settled_number p v t ≡ leads (at (stage.Text p) pending.Nothing false) (text_token p v ∷ [])) (sym e) refl

grown : Context → Base → ℕ → Bool → Outcome
grown p base n t = settled false (cond t (goes (stage.Number p base n)) (stops NotWellFormed))

number-goes : (p : Context) (base : Base) (v : ℕ) (ret : Bool) (d : Ten) → base_of base * v + digit (ten d) < 0x110000
    → turn (number_at p base v ret) (ten d) ≡ leads (number_at p base (base_of base * v + digit (ten d)) false) []
unfolding number_at grown ten turn_ascii ascii_kind ascii in_number
number-goes p Decimal v true nought h =
    subst (λ (t : Bool). grown p Decimal (10 * v + 0) t ≡ leads (at (stage.Number p Decimal (10 * v + 0)) pending.Nothing false) [])
    (sym (lt-ltb (10 * v + 0) 0x110000 h)) refl
number-goes p Decimal v true two h =
    subst (λ (t : Bool). grown p Decimal (10 * v + 2) t ≡ leads (at (stage.Number p Decimal (10 * v + 2)) pending.Nothing false) [])
    (sym (lt-ltb (10 * v + 2) 0x110000 h)) refl
number-goes p Decimal v true nine h =
    subst (λ (t : Bool). grown p Decimal (10 * v + 9) t ≡ leads (at (stage.Number p Decimal (10 * v + 9)) pending.Nothing false) [])
    (sym (lt-ltb (10 * v + 9) 0x110000 h)) refl
number-goes p Decimal v false nought h =
    subst (λ (t : Bool). grown p Decimal (10 * v + 0) t ≡ leads (at (stage.Number p Decimal (10 * v + 0)) pending.Nothing false) [])
    (sym (lt-ltb (10 * v + 0) 0x110000 h)) refl
number-goes p Decimal v false two h =
    subst (λ (t : Bool). grown p Decimal (10 * v + 2) t ≡ leads (at (stage.Number p Decimal (10 * v + 2)) pending.Nothing false) [])
    (sym (lt-ltb (10 * v + 2) 0x110000 h)) refl
number-goes p Decimal v false nine h =
    subst (λ (t : Bool). grown p Decimal (10 * v + 9) t ≡ leads (at (stage.Number p Decimal (10 * v + 9)) pending.Nothing false) [])
    (sym (lt-ltb (10 * v + 9) 0x110000 h)) refl
number-goes p Hexadecimal v true nought h =
    subst (λ (t : Bool). grown p Hexadecimal (16 * v + 0) t ≡ leads (at (stage.Number p Hexadecimal (16 * v + 0)) pending.Nothing false) [])
    (sym (lt-ltb (16 * v + 0) 0x110000 h)) refl
number-goes p Hexadecimal v true two h =
    subst (λ (t : Bool). grown p Hexadecimal (16 * v + 2) t ≡ leads (at (stage.Number p Hexadecimal (16 * v + 2)) pending.Nothing false) [])
    (sym (lt-ltb (16 * v + 2) 0x110000 h)) refl
number-goes p Hexadecimal v true nine h =
    subst (λ (t : Bool). grown p Hexadecimal (16 * v + 9) t ≡ leads (at (stage.Number p Hexadecimal (16 * v + 9)) pending.Nothing false) [])
    (sym (lt-ltb (16 * v + 9) 0x110000 h)) refl
number-goes p Hexadecimal v false nought h =
    subst (λ (t : Bool). grown p Hexadecimal (16 * v + 0) t ≡ leads (at (stage.Number p Hexadecimal (16 * v + 0)) pending.Nothing false) [])
    (sym (lt-ltb (16 * v + 0) 0x110000 h)) refl
number-goes p Hexadecimal v false two h =
    subst (λ (t : Bool). grown p Hexadecimal (16 * v + 2) t ≡ leads (at (stage.Number p Hexadecimal (16 * v + 2)) pending.Nothing false) [])
    (sym (lt-ltb (16 * v + 2) 0x110000 h)) refl
number-goes p Hexadecimal v false nine h =
    subst (λ (t : Bool). grown p Hexadecimal (16 * v + 9) t ≡ leads (at (stage.Number p Hexadecimal (16 * v + 9)) pending.Nothing false) [])
    (sym (lt-ltb (16 * v + 9) 0x110000 h)) refl

-- a number with further digits
numbered : (r : Rules) (p : Context) (base : Base) (v : ℕ) (ret : Bool) (ds : List Ten) (n n1 : Nest) → IsOpen n → IsOpen n1 → Room r n
    → is_live (number_at p base v ret) ≡ true → is_xml (value base v (tens ds)) ≡ true
    → nest_all r n (text_token p (value base v (tens ds)) ∷ []) ≡ n1 → Done r (at (stage.Text p) pending.Nothing false) n1 → Done r (number_at p base v ret) n
unfolding tens
numbered r p base v ret [] n n1 o o1 room live xml f d =
    step-to r (number_at p base v ret) (at (stage.Text p) pending.Nothing false) n n1 59 (text_token p v ∷ []) live (number-ends p base v ret xml) f o room d
numbered r p base v ret (t ∷ ds) n n1 o o1 room live xml f d =
    let low : base_of base * v + digit (ten t) < 0x110000 = let g = value-grows base (base_of base * v + digit (ten t)) (tens ds) in let h =
    xml-bound (value base (base_of base * v + digit (ten t)) (tens ds)) xml in omega arith in
    let e = number-goes p base v ret t low in
    step-to r (number_at p base v ret) (number_at p base (base_of base * v + digit (ten t)) false) n n (ten t) [] live e refl o room
    (numbered r p base (base_of base * v + digit (ten t)) false ds n n1 o o1 room (subst LeadsLive e (any-live (number_at p base v ret) (ten t) live)) xml f d)

abbrev Reaches : Base → ℕ → (ℕ → Type 0) → Type 0
Reaches base v P = (ds : List Ten) × (is_xml (value base v (tens ds)) ≡ true) × P (value base v (tens ds))

abbrev Any : ℕ → Type 0
Any n = Unit {0}

xml-low : (n : ℕ) → 32 ≤ n → n < 55296 → is_xml n ≡ true
xml-low n h k = grind (arith, nat_tests)

xml-high : (n : ℕ) → 65536 ≤ n → n < 0x110000 → is_xml n ≡ true
xml-high n h k = grind (arith, nat_tests)

reaches-nine : (base : Base) (v : ℕ) → v ≡ 0 → Reaches base v (λ w. is_space w ≡ true)
unfolding tens ten
reaches-nine Decimal v e = subst (λ (n : ℕ). Reaches Decimal n (λ w. is_space w ≡ true)) (sym e) (nine ∷ [], refl, refl)
reaches-nine Hexadecimal v e = subst (λ (n : ℕ). Reaches Hexadecimal n (λ w. is_space w ≡ true)) (sym e) (nine ∷ [], refl, refl)

reaches-low : (base : Base) (v : ℕ) → 1 ≤ v → v < 32 → Reaches base v Any
unfolding tens ten
reaches-low Decimal v h k = (nought ∷ nought ∷ [], xml-low (10 * (10 * v + 0) + 0) (omega arith) (omega arith), tt)
reaches-low Hexadecimal v h k = (nought ∷ nought ∷ [], xml-low (16 * (16 * v + 0) + 0) (omega arith) (omega arith), tt)

reaches-high : (base : Base) (v : ℕ) → 55296 ≤ v → v < 65536 → Reaches base v Any
unfolding tens ten
reaches-high Decimal v h k = (nought ∷ [], xml-high (10 * v + 0) (omega arith) (omega arith), tt)
reaches-high Hexadecimal v h k = (nought ∷ [], xml-high (16 * v + 0) (omega arith) (omega arith), tt)

reaches-here : (base : Base) (v : ℕ) → is_xml v ≡ true → Reaches base v Any
unfolding tens
reaches-here base v e = ([], e, tt)

reaches-any : (base : Base) (v : ℕ) → v < 0x110000 → Reaches base v Any
reaches-any base v h = elim (cases_lt v 32) [
  | inl low ↦ elim (cases_lt v 1) [ inl z ↦ (let g = reaches-nine base v (omega arith) in (g.0, g.1, tt)) | inr z ↦ reaches-low base v z low ]
  | inr up ↦ elim (cases_lt v 55296) [
    | inl mid ↦ reaches-here base v (xml-low v up mid)
    | inr high ↦ elim (cases_lt v 65536) [ inl sur ↦ reaches-high base v high sur | inr top ↦ reaches-here base v (xml-high v top h) ]
  ]
]

-- to white space
reaches-at : (base : Base) (v n : ℕ) → v ≡ n → Reaches base n (λ w. is_space w ≡ true) → Reaches base v (λ w. is_space w ≡ true)
reaches-at base v n e h = subst (λ (m : ℕ). Reaches base m (λ w. is_space w ≡ true)) (sym e) h

reaches-own : (base : Base) (v : ℕ) → is_space v ≡ true → Reaches base v (λ w. is_space w ≡ true)
unfolding tens
reaches-own base v e = ([], xml-space v e, e)
  where
    xml-space : (v : ℕ) → is_space v ≡ true → is_xml v ≡ true
    xml-space v e = grind (arith, nat_tests)

or-cases : (s t : Bool) → (s || t) ≡ true → (s ≡ true) ⊎ (t ≡ true)
or-cases true t e = inl refl
or-cases false t e = inr e

reaches-space : (base : Base) (v : ℕ) → begins_space base v ≡ true → Reaches base v (λ w. is_space w ≡ true)
unfolding tens ten
reaches-space Decimal v h = elim (or-cases (v == 0) ((v == 1) || ((v == 3) || is_space v)) h) [
  | inl e ↦ reaches-nine Decimal v (eqb-true v 0 e)
  | inr g ↦ elim (or-cases (v == 1) ((v == 3) || is_space v) g) [
    | inl e ↦ reaches-at Decimal v 1 (eqb-true v 1 e) (nought ∷ [], refl, refl)
    | inr k ↦ elim (or-cases (v == 3) (is_space v) k)
        [ inl e ↦ reaches-at Decimal v 3 (eqb-true v 3 e) (two ∷ [], refl, refl) | inr e ↦ reaches-own Decimal v e ]
  ]
]
reaches-space Hexadecimal v h = elim (or-cases (v == 0) ((v == 2) || is_space v) h) [
  | inl e ↦ reaches-nine Hexadecimal v (eqb-true v 0 e)
  | inr g ↦ elim (or-cases (v == 2) (is_space v) g)
      [ inl e ↦ reaches-at Hexadecimal v 2 (eqb-true v 2 e) (nought ∷ [], refl, refl) | inr e ↦ reaches-own Hexadecimal v e ]
]

-- Between two characters.

-- what may stand in an element
stands-space : (r : Rules) (s : List RawName) (c : ℕ) → is_space c ≡ true → may_stand r s c ≡ true
stands-space r s c e = subst (λ (t : Bool). (t || cond (is_root s) r.loose true) ≡ true) (sym e) refl

or-true : (t : Bool) → (t || true) ≡ true
or-true true = refl
or-true false = refl

-- at a state that does not come to white space
stands-loose : (r : Rules) (st : State) (m : RawName) (s : List RawName) (c : ℕ) → goes_with r st (inside (m ∷ s)) ≡ true → comes_to_space st ≡ false
    → may_stand r s c ≡ true
stands-loose r st m [] c g e = subst (λ (t : Bool). (is_space c || t) ≡ true) (sym (loose (comes_to_space st) e g)) (or-true (is_space c))
  where
    loose : (t : Bool) → t ≡ false → (t || r.loose) ≡ true → r.loose ≡ true
    loose true e g = absurd (let bad : true ≡ false = e in cc)
    loose false e g = g
stands-loose r st m (x ∷ s) c g e = or-true (is_space c)

nest-word : (r : Rules) (m : RawName) (s : List RawName) (c : ℕ) → may_stand r s c ≡ true → nest_all r (inside (m ∷ s)) (token.Word c ∷ []) ≡ inside (m ∷ s)
unfolding nest
nest-word r m s c e = cond-true (may_stand r s c) (inside (m ∷ s)) lost e

live-number : (p : Context) (base : Base) (v : ℕ) (ret : Bool) → is_live_stage (stage.Number p base v) ≡ true → v < 0x110000
live-number p base v ret h = ltb-true v 0x110000 h

number-content : (r : Rules) (base : Base) (v : ℕ) (ret : Bool) (m : RawName) (s : List RawName) (t : Bool) → begins_space base v ≡ t
    → IsSound r (number_at Words base v ret) (inside (m ∷ s)) → Done r (number_at Words base v ret) (inside (m ∷ s))
unfolding number_at
number-content r base v ret m s true e k =
    let (ds, xml, sp) = reaches-space base v e in
    numbered r Words base v ret ds (inside (m ∷ s)) (inside (m ∷ s)) tt tt k.room k.live xml
    (nest-word r m s (value base v (tens ds)) (stands-space r s (value base v (tens ds)) sp)) (closings r (m ∷ s) k.fits.1 k.room)
number-content r base v ret m s false e k =
    let (ds, xml, any) = reaches-any base v (live-number Words base v ret (live-parts (number_at Words base v ret) k.live).0) in
    numbered r Words base v ret ds (inside (m ∷ s)) (inside (m ∷ s)) tt tt k.room k.live xml
    (nest-word r m s (value base v (tens ds)) (stands-loose r (number_at Words base v ret) m s (value base v (tens ds)) k.goes e))
    (closings r (m ∷ s) k.fits.1 k.room)

mark-returned : (ret : Bool) → (not ret || false) ≡ true → ret ≡ false
mark-returned true h = sym h
mark-returned false h = refl

-- a stage of content
ended-content : (r : Rules) (s : Stage) (ret : Bool) (m : RawName) (st : List RawName) → IsSound r (at s pending.Nothing ret) (inside (m ∷ st)) → ContentEnds s
    → Done r (at s pending.Nothing ret) (inside (m ∷ st))
ended-content r s ret m st k (inl w) = run-to r (at s pending.Nothing ret) end_mark (inside (m ∷ st)) (inside (m ∷ st)) [] k.live (w ret) refl tt k.room
    (marked r m st k.fits.1 k.room)
ended-content r s ret m st k (inr (x, w, inl sp)) =
    run-to r (at s pending.Nothing ret) end_mark (inside (m ∷ st)) (inside (m ∷ st)) (token.Word x ∷ []) k.live (w ret)
    (nest-word r m st x (stands-space r st x sp)) tt k.room (marked r m st k.fits.1 k.room)
ended-content r s ret m st k (inr (x, w, inr other)) =
    run-to r (at s pending.Nothing ret) end_mark (inside (m ∷ st)) (inside (m ∷ st)) (token.Word x ∷ []) k.live (w ret)
    (nest-word r m st x (stands-loose r (at s pending.Nothing ret) m st x k.goes other)) tt k.room
    (marked r m st k.fits.1 k.room)

pub content-done : (r : Rules) (s : Stage) (ret : Bool) (m : RawName) (st : List RawName) → IsSound r (at s pending.Nothing ret) (inside (m ∷ st))
    → Done r (at s pending.Nothing ret) (inside (m ∷ st))
unfolding number_at
content-done r (stage.Number Words base v) ret m st k = number-content r base v ret m st (begins_space base v) refl k
content-done r stage.EndTagMark ret m st k =
    subst (λ (x : Bool). Done r (at stage.EndTagMark pending.Nothing x) (inside (m ∷ st))) (sym (mark-returned ret k.calm_is)) (marked r m st k.fits.1 k.room)
content-done r (stage.Number (Value q) base v) ret m st k = false-true (ap is_content k.fits.0)
content-done r s ret m st k = ended-content r s ret m st k (content-way s (ap is_content k.fits.0) (live-parts (at s pending.Nothing ret) k.live).0 refl refl)

-- In a tag.

-- after a tag
opened : (r : Rules) (s : List RawName) (n : RawName) → Closable n → AllClosable s → length s ≤ r.depth → Done r words (inside (n ∷ s))
opened r s n c a room = closings r (n ∷ s) (c, a) room

nest-value : (r : Rules) (s : List RawName) (n : RawName) (k : ℕ) → nest_all r (in_value s n k) (token.ValueEnds ∷ token.TagEnds false ∷ []) ≡ inside (n ∷ s)
unfolding nest
nest-value r s n k = refl

nest-value_more : (r : Rules) (s : List RawName) (n : RawName) (k x : ℕ)
    → nest_all r (in_value s n k) (token.Value x ∷ token.ValueEnds ∷ token.TagEnds false ∷ []) ≡ inside (n ∷ s)
unfolding nest
nest-value_more r s n k x = refl

nest-character : (r : Rules) (s : List RawName) (n : RawName) (k x : ℕ) → nest_all r (in_value s n k) (token.Value x ∷ []) ≡ in_value s n k
unfolding nest
nest-character r s n k x = refl

nest-attribute : (r : Rules) (s : List RawName) (n : RawName) (k : ℕ)
    → nest_all r (naming_attribute s n k) (token.ValueOpens ∷ token.ValueEnds ∷ token.TagEnds false ∷ []) ≡ inside (n ∷ s)
unfolding nest
nest-attribute r s n k = refl

nest-attribute_more : (r : Rules) (s : List RawName) (n : RawName) (k x : ℕ)
    → nest_all r (naming_attribute s n k) (token.AttrByte x ∷ token.ValueOpens ∷ token.ValueEnds ∷ token.TagEnds false ∷ []) ≡ inside (n ∷ s)
unfolding nest
nest-attribute_more r s n k x = refl

nest-tag : (r : Rules) (s : List RawName) (n : RawName) (k : ℕ) → nest_all r (in_tag s n k) (token.TagEnds false ∷ []) ≡ inside (n ∷ s)
unfolding nest
nest-tag r s n k = refl

nest-named : (r : Rules) (s : List RawName) (n : RawName) → nest_all r (naming s n) (token.TagEnds false ∷ []) ≡ inside (n ∷ s)
unfolding nest
nest-named r s n = refl

nest-hollow : (r : Rules) (m : RawName) (s : List RawName) (n : RawName) (k : ℕ) → nest_all r (in_tag (m ∷ s) n k) (token.TagEnds true ∷ []) ≡ inside (m ∷ s)
unfolding nest
nest-hollow r m s n k = refl

nest-named_hollow : (r : Rules) (m : RawName) (s : List RawName) (n : RawName) → nest_all r (naming (m ∷ s) n) (token.TagEnds true ∷ []) ≡ inside (m ∷ s)
unfolding nest
nest-named_hollow r m s n = refl

value-text : (r : Rules) (q : Quote) (ret : Bool) (s : List RawName) (n : RawName) (k : ℕ) → is_live (at (stage.Text (Value q)) pending.Nothing ret) ≡ true
    → Closable n → AllClosable s → Room r (in_value s n k)
    → Done r (at (stage.Text (Value q)) pending.Nothing ret) (in_value s n k)
value-text r q ret s n k live c a room = run-to r (at (stage.Text (Value q)) pending.Nothing ret) words (in_value s n k) (inside (n ∷ s)) _ live
    (text-value_way q ret) (nest-value r s n k) tt room (opened r s n c a room.0)

live-value : (q : Quote) → is_live (at (stage.Text (Value q)) pending.Nothing false) ≡ true
unfolding is_live
live-value q = refl

ended-value : (r : Rules) (s : Stage) (ret : Bool) (st : List RawName) (n : RawName) (i : ℕ) → IsSound r (at s pending.Nothing ret) (in_value st n i)
    → ValueEnds s → Done r (at s pending.Nothing ret) (in_value st n i)
ended-value r s ret st n i k (inl w) = run-to r (at s pending.Nothing ret) words (in_value st n i) (inside (n ∷ st)) _ k.live (w ret) (nest-value r st n i) tt
    k.room (opened r st n k.fits.1 k.fits.2 k.room.0)
ended-value r s ret st n i k (inr (x, w)) =
    run-to r (at s pending.Nothing ret) words (in_value st n i) (inside (n ∷ st)) _ k.live (w ret) (nest-value_more r st n i x) tt k.room
    (opened r st n k.fits.1 k.fits.2 k.room.0)

pub value-done : (r : Rules) (s : Stage) (ret : Bool) (st : List RawName) (n : RawName) (i : ℕ) → IsSound r (at s pending.Nothing ret) (in_value st n i)
    → Done r (at s pending.Nothing ret) (in_value st n i)
unfolding number_at
value-done r (stage.Number (Value q) base v) ret st n i k =
    let (ds, xml, any) = reaches-any base v (live-number (Value q) base v ret (live-parts (number_at (Value q) base v ret) k.live).0) in
    numbered r (Value q) base v ret ds (in_value st n i) (in_value st n i) tt tt k.room k.live xml (nest-character r st n i (value base v (tens ds)))
    (value-text r q false st n i (live-value q) k.fits.1 k.fits.2 k.room)
value-done r (stage.Number Words base v) ret st n i k = false-true (ap is_value k.fits.0)
value-done r s ret st n i k = ended-value r s ret st n i k (value-way s (ap is_value k.fits.0) refl)

pub attribute-done : (r : Rules) (s : Stage) (ret : Bool) (st : List RawName) (n : RawName) (i : ℕ)
    → IsSound r (at s pending.Nothing ret) (naming_attribute st n i) → AttributeEnds s → Done r (at s pending.Nothing ret) (naming_attribute st n i)
attribute-done r s ret st n i k (inl w) = run-to r (at s pending.Nothing ret) words (naming_attribute st n i) (inside (n ∷ st)) _ k.live (w ret)
    (nest-attribute r st n i) tt k.room (opened r st n k.fits.1 k.fits.2 k.room.0)
attribute-done r s ret st n i k (inr (x, w)) = run-to r (at s pending.Nothing ret) words (naming_attribute st n i) (inside (n ∷ st)) _ k.live (w ret)
    (nest-attribute_more r st n i x) tt k.room (opened r st n k.fits.1 k.fits.2 k.room.0)

-- the end of a tag, by whether it is an empty-element tag
hollow-tag : (r : Rules) (st : State) (s : List RawName) (n : RawName) (k : ℕ) (e : Bool) → is_live st ≡ true → Way st words (token.TagEnds e ∷ [])
    → (s ≡ [] → e ≡ false) → Closable n → AllClosable s → Room r (in_tag s n k) → Done r st (in_tag s n k)
hollow-tag r st s n k false live w h c a room = run-to r st words (in_tag s n k) (inside (n ∷ s)) _ live w (nest-tag r s n k) tt room (opened r s n c a room.0)
hollow-tag r st [] n k true live w h c a room = absurd (let bad : true ≡ false = h refl in cc)
hollow-tag r st (m ∷ s) n k true live w h c a room = run-to r st words (in_tag (m ∷ s) n k) (inside (m ∷ s)) _ live w (nest-hollow r m s n k) tt room
    (closings r (m ∷ s) a (room-outer r m (m ∷ s) room.0))

hollow-named : (r : Rules) (st : State) (s : List RawName) (n : RawName) (e : Bool) → is_live st ≡ true → Way st words (token.TagEnds e ∷ [])
    → (s ≡ [] → e ≡ false) → Closable n → AllClosable s → length s ≤ r.depth → Done r st (naming s n)
hollow-named r st s n false live w h c a room = run-to r st words (naming s n) (inside (n ∷ s)) _ live w (nest-named r s n) tt room (opened r s n c a room)
hollow-named r st [] n true live w h c a room = absurd (let bad : true ≡ false = h refl in cc)
hollow-named r st (m ∷ s) n true live w h c a room = run-to r st words (naming (m ∷ s) n) (inside (m ∷ s)) _ live w (nest-named_hollow r m s n) tt room
    (closings r (m ∷ s) a (room-outer r m (m ∷ s) room))

-- the stream's own tag
not-empty : (s : Stage) → not (is_empty_mark s) ≡ true → ends_empty s ≡ false
not-empty stage.EmptyTagMark h = sym h
not-empty s h = refl

root-tag : (r : Rules) (st : State) (s : List RawName) (n : RawName) (k : ℕ) → goes_with r st (in_tag s n k) ≡ true → s ≡ [] → ends_empty st.stage ≡ false
root-tag r st [] n k g e = not-empty st.stage g
root-tag r st (m ∷ s) n k g e = absurd (let bad : m ∷ s ≡ [] = e in cc)

root-name : (r : Rules) (st : State) (s : List RawName) (n : RawName) → goes_with r st (naming s n) ≡ true → s ≡ [] → ends_empty st.stage ≡ false
root-name r st [] n g e = not-empty st.stage g
root-name r st (m ∷ s) n g e = absurd (let bad : m ∷ s ≡ [] = e in cc)

pub tag-done : (r : Rules) (s : Stage) (ret : Bool) (st : List RawName) (n : RawName) (k : ℕ) → IsSound r (at s pending.Nothing ret) (in_tag st n k)
    → Done r (at s pending.Nothing ret) (in_tag st n k)
tag-done r s ret st n k h =
    hollow-tag r (at s pending.Nothing ret) st n k (ends_empty s) h.live (tag-way s (ap is_tag h.fits.0) ret)
    (root-tag r (at s pending.Nothing ret) st n k h.goes) h.fits.1 h.fits.2 h.room

pub named-done : (r : Rules) (s : Stage) (ret : Bool) (st : List RawName) (n : RawName) → is_live (at s pending.Nothing ret) ≡ true
    → goes_with r (at s pending.Nothing ret) (naming st n) ≡ true → is_tag (sort s) ≡ true → Closable n → AllClosable st
    → length st ≤ r.depth → Done r (at s pending.Nothing ret) (naming st n)
named-done r s ret st n live g k c a room =
    hollow-named r (at s pending.Nothing ret) st n (ends_empty s) live (tag-way s k ret) (root-name r (at s pending.Nothing ret) st n g) c a room
