-- A byte that is judged leads where the frame leads.
use Rattle.std.proofs.Common.{◌≡◌, ℕ, List, [], ◌∷◌, refl, sym, ap, ◌∙◌, subst, Bool, true, false, cond}
use Rattle.std.specs.Result.{IfOk, IfErr, OnOk}
use Rattle.std.specs.declared.result.Result.{Result}
use Rattle.std.specs.declared.result.Result.TheVariants.{Ok, Err}
use Rattle.std.specs.declared.option.Option.{Option}
use Rattle.std.specs.declared.option.Option.TheVariants.{None, Some}
use Rattle.stream_lex.specs.declared.Token.{Token}
use Rattle.stream_lex.specs.declared.LexFault.{LexFault}
use Rattle.stream_lex.specs.declared.Lexed.{Lexed}
use Rattle.stream_lex.specs.declared.stages.State.{State}
use Rattle.stream_lex.specs.machine.Turns.{Outcome, leads, fails, turn}
use Rattle.stream_lex.specs.machine.Live.{is_live}
use Rattle.stream_lex.specs.machine.Leading.{tokens_of, IsTurned}
use Rattle.stream_lex.proofs.Living.{LeadsLive}
use Rattle.stream_grammar.specs.declared.rules.Rules.{Rules}
use Rattle.stream_frames.specs.declared.places.Place.{Place}
use Rattle.stream_frames.specs.declared.places.Move.{Move}
use Rattle.stream_grammar.specs.declared.FrameFault.{FrameFault}
use Rattle.stream_grammar.specs.declared.FrameFault.TheVariants as fault
use Rattle.stream_grammar.specs.grammar.Trees.{RawName}
use Rattle.stream_grammar.specs.grammar.Faults.{deeper, wider, looser}
use Rattle.stream_grammar.specs.machine.Nesting.{Nest, start, inside, lost, nest_all}
use Rattle.stream_grammar.specs.machine.Framing.{goes_with, open_at, broken, placed, settled, frame_next, is_broken, lexical_fault, byte_fault, fault_at}
use Rattle.stream_frames.specs.Moves.{tokens_move, breaks}
use Rattle.stream_frames.specs.Tracking.{nest_at, moved, frame_of, tried, judged}
use Rattle.stream_grammar.specs.machine.Telling.{is_few}
use Rattle.stream_frames.proofs.MoveLemmas.{tokens-moved, move-breaks}
use Rattle.stream_grammar.proofs.Few.{turn-few}
use Rattle.stream_grammar.proofs.Following.{any-live}

cond-open : (s : State) (n : Nest) (c : Bool) → is_broken (cond c (open_at s n) broken) ≡ false → cond c (open_at s n) broken ≡ open_at s n
cond-open s n true e = refl
cond-open s n false e = absurd (let bad : true ≡ false = e in cc)

placed-open : (r : Rules) (s : State) (n : Nest) → is_broken (placed r s n) ≡ false → placed r s n ≡ frame_of s n
placed-open r s lost e = refl
placed-open r s (inside []) e = refl
placed-open r s (inside (m ∷ st)) e = cond-open s (inside (m ∷ st)) (goes_with r s (inside (m ∷ st))) e
placed-open r s start e = cond-open s start (goes_with r s start) e
placed-open r s n e = cond-open s n (goes_with r s n) e

-- the frame after tokens
tokens-placed : (r : Rules) (p : Place) (st : List RawName) (s : State) (us : List Token) (n : RawName) → is_few us ≡ true
    → placed r s (nest_all r (nest_at p st n) us) ≡ placed r s (moved (tokens_move r p st us) st n)
tokens-placed r p st s us n h = ap (placed r s) (sym (tokens-moved r p st us n h))

tokens-break : (r : Rules) (p : Place) (st : List RawName) (s : State) (us : List Token) (n : RawName) → is_few us ≡ true
    → is_broken (placed r s (nest_all r (nest_at p st n) us)) ≡ breaks r s (tokens_move r p st us) st
tokens-break r p st s us n h = ap is_broken (tokens-placed r p st s us n h) ∙ sym (move-breaks r s (tokens_move r p st us) st n)

frame-at : (r : Rules) (s to : State) (n : Nest) (b : ℕ) (us : List Token) → turn s b ≡ leads to us
    → frame_next r (open_at s n) b ≡ placed r to (nest_all r n us)
frame-at r s to n b us e = ap (settled r n) e

-- What is judged.
abbrev pub JudgedOpen : Rules → Place → List RawName → State → ℕ → State → List Token → Type 0
JudgedOpen r p st s b to us = (n : RawName)
    → (frame_next r (open_at s (nest_at p st n)) b ≡ frame_of to (moved (tokens_move r p st us) st n))
    × (is_broken (frame_next r (open_at s (nest_at p st n)) b) ≡ false)

abbrev pub JudgedBroken : Rules → Place → List RawName → State → ℕ → FrameFault → Type 0
JudgedBroken r p st s b f = (n : RawName) → (is_broken (frame_next r (open_at s (nest_at p st n)) b) ≡ true) × (f ≡ fault_at r (open_at s (nest_at p st n)) b)

none-some : {X : Type 0} (x : X) → Some x ≡ None → ⊥
none-some x e = cc

same-some : (x y : FrameFault) → Some x ≡ Some y → x ≡ y
same-some x y e = cc

cond-none : (t : Bool) (x : FrameFault) → cond t (Some x) None ≡ None → t ≡ false
cond-none true x e = absurd (none-some x e)
cond-none false x e = refl

cond-some : (t : Bool) (x y : FrameFault) → cond t (Some x) None ≡ Some y → (t ≡ true) × (y ≡ x)
cond-some true x y e = (refl, sym (same-some x y e))
cond-some false x y e = absurd (none-some y (sym e))

leads-open : (r : Rules) (p : Place) (st : List RawName) (s to : State) (b : ℕ) (us : List Token) → turn s b ≡ leads to us
    → breaks r to (tokens_move r p st us) st ≡ false → JudgedOpen r p st s b to us
leads-open r p st s to b us e h n =
    let few = turn-few s to b us e in
    let whole : is_broken (placed r to (nest_all r (nest_at p st n) us)) ≡ false = tokens-break r p st to us n few ∙ h in
    let at_it : frame_next r (open_at s (nest_at p st n)) b ≡ placed r to (nest_all r (nest_at p st n) us) = frame-at r s to (nest_at p st n) b us e in (
      at_it ∙ (tokens-placed r p st to us n few
          ∙ placed-open r to (moved (tokens_move r p st us) st n) (ap is_broken (sym (tokens-placed r p st to us n few)) ∙ whole)),
      ap is_broken at_it ∙ whole,
    )

tried-fault : (r : Rules) (p : Place) (st : List RawName) (s to : State) (b : ℕ) (us : List Token) (n : RawName) → turn s b ≡ leads to us
    → tried r p st to us ≡ byte_fault r (open_at s (nest_at p st n)) b (leads to us)
tried-fault r p st s to b us n e =
    let few = turn-few s to b us e in
    let by : (q : Rules) → breaks q to (tokens_move q p st us) st ≡ is_broken (frame_next q (open_at s (nest_at p st n)) b) =
    λ q. sym (tokens-break q p st to us n few) ∙ ap is_broken (sym (frame-at q s to (nest_at p st n) b us e)) in
    ap (λ (t : Bool). cond t (cond (breaks (wider r) to (tokens_move (wider r) p st us) st)
    (cond (breaks (looser r) to (tokens_move (looser r) p st us) st) fault.NotWellFormed fault.BadFormat) fault.TooManyAttrs) fault.TooDeep) (by (deeper r))
    ∙ (ap (λ (t : Bool). cond (is_broken (frame_next (deeper r) (open_at s (nest_at p st n)) b))
    (cond t (cond (breaks (looser r) to (tokens_move (looser r) p st us) st) fault.NotWellFormed fault.BadFormat) fault.TooManyAttrs) fault.TooDeep)
    (by (wider r))
    ∙ ap (λ (t : Bool). cond (is_broken (frame_next (deeper r) (open_at s (nest_at p st n)) b))
    (cond (is_broken (frame_next (wider r) (open_at s (nest_at p st n)) b)) (cond t fault.NotWellFormed fault.BadFormat) fault.TooManyAttrs) fault.TooDeep)
    (by (looser r)))

leads-broken : (r : Rules) (p : Place) (st : List RawName) (s to : State) (b : ℕ) (us : List Token) → turn s b ≡ leads to us
    → breaks r to (tokens_move r p st us) st ≡ true → JudgedBroken r p st s b (tried r p st to us)
leads-broken r p st s to b us e h n = (
  ap is_broken (frame-at r s to (nest_at p st n) b us e) ∙ (tokens-break r p st to us n (turn-few s to b us e) ∙ h),
  tried-fault r p st s to b us n e ∙ ap (byte_fault r (open_at s (nest_at p st n)) b) (sym e),
)

fails-broken : (r : Rules) (p : Place) (st : List RawName) (s : State) (b : ℕ) (g : LexFault) → turn s b ≡ fails g → JudgedBroken r p st s b (lexical_fault g)
fails-broken r p st s b g e n = (ap (λ (o : Outcome). is_broken (settled r (nest_at p st n) o)) e, ap (byte_fault r (open_at s (nest_at p st n)) b) (sym e))

pub judged-open : (r : Rules) (p : Place) (st : List RawName) (s to : State) (b : ℕ) (l : Lexed) → IsTurned s (turn s b) to l
    → judged r p st to l.fault (tokens_of l) ≡ None → JudgedOpen r p st s b to (tokens_of l)
judged-open r p st s to b l t j = by (turn s b) refl t
  where
    by : (o : Outcome) → turn s b ≡ o → IsTurned s o to l → JudgedOpen r p st s b to (tokens_of l)
    by (leads u us) e (same, told, ok) =
        let e1 : turn s b ≡ leads to (tokens_of l) = e ∙ (ap (λ (x : State). leads x us) (sym same) ∙ ap (leads to) (sym told)) in
        leads-open r p st s to b (tokens_of l) e1
        (cond-none (breaks r to (tokens_move r p st (tokens_of l)) st) (tried r p st to (tokens_of l))
        (ap (λ (x : Option LexFault). judged r p st to x (tokens_of l)) (sym ok) ∙ j))
    by (fails g) e (same, told, bad) = absurd (none-some (lexical_fault g) (ap (λ (x : Option LexFault). judged r p st to x (tokens_of l)) (sym bad) ∙ j))

pub judged-broken : (r : Rules) (p : Place) (st : List RawName) (s to : State) (b : ℕ) (l : Lexed) (f : FrameFault) → IsTurned s (turn s b) to l
    → judged r p st to l.fault (tokens_of l) ≡ Some f → JudgedBroken r p st s b f
judged-broken r p st s to b l f t j = by (turn s b) refl t
  where
    by : (o : Outcome) → turn s b ≡ o → IsTurned s o to l → JudgedBroken r p st s b f
    by (leads u us) e (same, told, ok) =
        let e1 : turn s b ≡ leads to (tokens_of l) = e ∙ (ap (λ (x : State). leads x us) (sym same) ∙ ap (leads to) (sym told)) in
        let (h, i) = cond-some (breaks r to (tokens_move r p st (tokens_of l)) st) (tried r p st to (tokens_of l)) f
        (ap (λ (x : Option LexFault). judged r p st to x (tokens_of l)) (sym ok) ∙ j) in
        subst (JudgedBroken r p st s b) (sym i) (leads-broken r p st s to b (tokens_of l) e1 h)
    by (fails g) e (same, told, bad) =
        subst (JudgedBroken r p st s b) (same-some (lexical_fault g) f (ap (λ (x : Option LexFault). judged r p st to x (tokens_of l)) (sym bad) ∙ j))
        (fails-broken r p st s b g e)

pub turned-live : (s to : State) (b : ℕ) (l : Lexed) → is_live s ≡ true → IsTurned s (turn s b) to l → is_live to ≡ true
turned-live s to b l live t = by (turn s b) refl t
  where
    by : (o : Outcome) → turn s b ≡ o → IsTurned s o to l → is_live to ≡ true
    by (leads u us) e (same, told, ok) = subst (λ (x : State). is_live x ≡ true) (sym same) (subst LeadsLive e (any-live s b live))
    by (fails g) e (same, told, bad) = subst (λ (x : State). is_live x ≡ true) (sym same) live

pub turned_few : (s to : State) (b : ℕ) (l : Lexed) → IsTurned s (turn s b) to l → is_few (tokens_of l) ≡ true
turned_few s to b l t = by (turn s b) refl t
  where
    by : (o : Outcome) → turn s b ≡ o → IsTurned s o to l → is_few (tokens_of l) ≡ true
    by (leads u us) e (same, told, ok) = ap is_few told ∙ turn-few s u b us e
    by (fails g) e (same, told, bad) = ap is_few told

-- Over an answer.

pub if-open : (x : Result Move FrameFault) (P : Type 0) (m0 : Move) (Q : Move → Type 0) → IfOk x (λ m. m ≡ m0) → OnOk x P → (P → Q m0) → IfOk x Q
if-open (Ok m) P m0 Q e p f = subst Q (sym e) (f p)
if-open (Err g) P m0 Q e p f = tt

pub if-broken : (x : Result Move FrameFault) (R Q : FrameFault → Type 0) → IfErr x R → ((f : FrameFault) → R f → Q f) → IfErr x Q
if-broken (Ok m) R Q h f = tt
if-broken (Err g) R Q h f = f g h
