-- The kinds of faults.
use Rattle.std.proofs.Common.{◌≡◌, ℕ, ◌<◌, ◌≤◌, ◌⊎◌, inl, inr, List, [], ◌∷◌, ◌++◌, refl, sym, ap, ◌∙◌, subst}
use Rattle.std.proofs.Common.{append-nil, append_assoc, Bool, true, false, cond, ◌==◌, nat_lt, arith}
use Rattle.std.proofs.lemmas.Bool.{cond_both, cond-false}
use Rattle.std.proofs.lemmas.Bool.Decides.{nat_tests}
use Rattle.stream_lex.specs.declared.Token.{Token}
use Rattle.stream_lex.specs.declared.LexFault.{LexFault}
use Rattle.stream_lex.specs.declared.LexFault.TheVariants as lexical
use Rattle.stream_lex.specs.declared.stages.Context.TheVariants.{Words}
use Rattle.stream_lex.specs.declared.stages.Stage.TheVariants as stage
use Rattle.stream_lex.specs.declared.stages.State.{State}
use Rattle.stream_lex.specs.declared.characters.Pending.TheVariants as pending
use Rattle.stream_lex.specs.declared.characters.Reach.{Reach}
use Rattle.stream_lex.specs.declared.characters.Reach.TheVariants.{Whole, Begun, Broken}
use Rattle.stream_lex.specs.grammar.Classes.{has_between, class_of}
use Rattle.stream_lex.specs.machine.Characters.{reach}
use Rattle.stream_lex.specs.machine.Machine.{allowed_at, voice}
use Rattle.stream_lex.specs.machine.Turns.{Outcome, leads, fails, at, byte_told, fault_of, turn_ascii, turn_wide, turn}
use Rattle.stream_lex.specs.machine.Live.{is_live}
use Rattle.stream_lex.specs.grammar.Reading.{BeginsReading, IsKind}
use Rattle.stream_lex.specs.machine.Leading.{Leads}
use Rattle.stream_lex.proofs.Lists.{false-true}
use Rattle.stream_lex.proofs.ByteSteps.{Goes, Fails, Does, does}
use Rattle.stream_lex.proofs.Living.{LeadsLive}
use Rattle.stream_lex.proofs.Standing.{leads-first_character, leads-step, not-begun, kind-of-fault}
use Rattle.stream_grammar.specs.declared.FrameFault.{FrameFault}
use Rattle.stream_grammar.specs.declared.FrameFault.TheVariants as fault
use Rattle.stream_grammar.specs.grammar.Trees.{is_space}
use Rattle.stream_grammar.specs.declared.rules.Rules.{Rules}
use Rattle.stream_grammar.specs.grammar.Streams.{Begins}
use Rattle.stream_grammar.specs.grammar.Faults.{deeper, wider, looser, rank, Row, IsSyntaxKind}
use Rattle.stream_grammar.specs.machine.Nesting.{Nest, start, inside, lost, nest_all}
use Rattle.stream_grammar.specs.machine.Framing.{goes_with, Frame, open_at, ended, broken, placed, settled, frame_next, frame_after}
use Rattle.stream_grammar.specs.machine.Framing.{first_frame, is_broken, lexical_fault, byte_fault, fault_at}
use Rattle.stream_grammar.proofs.AfterEnd.{after_end, spaced, end-live}
use Rattle.stream_grammar.proofs.Fitting.{Fits, Strays, fits-next}
use Rattle.stream_grammar.proofs.Following.{IsSound, Sound, any-live, after-sound, next-sound}
use Rattle.stream_grammar.proofs.Whole.{first-sound, open-begins, broken-begins}
use Rattle.stream_grammar.proofs.Agreeing.{Allows, after-kept, after-snoc}

-- The lexical layer at a frame.

abbrev Reading : List ℕ → State → Type 0
Reading bytes st = (ts : List Token) × Leads bytes ts st

abbrev LexAt : List ℕ → Frame → Type 0
LexAt bytes (open_at st n) = Reading bytes st
LexAt bytes ended = (ret : Bool) × Reading bytes (after_end ret)
LexAt bytes broken = Unit {0}

reading-on : (bytes : List ℕ) (st to : State) (b : ℕ) (us : List Token) → is_live st ≡ true → turn st b ≡ leads to us → Reading bytes st
    → Reading (bytes ++ b ∷ []) to
reading-on bytes st to b us live e (ts, k) =
    let g : Goes st b us to = subst (Does st b) e (does st b live) in (ts ++ us, leads-step bytes ts us st to b (subst LeadsLive e (any-live st b live)) g k)

placed-lex : (r : Rules) (bytes : List ℕ) (to : State) (n : Nest) → (Fits to n) ⊎ (Strays to n) → Reading bytes to → LexAt bytes (placed r to n)
placed-lex r bytes to lost h k = tt
placed-lex r bytes to (inside []) (inl e) k = (false, subst (Reading bytes) e k)
placed-lex r bytes to (inside []) (inr e) k = absurd e
placed-lex r bytes to (inside (m ∷ s)) h k = cond-lex (goes_with r to (inside (m ∷ s))) (inside (m ∷ s)) k
  where
    cond-lex : (t : Bool) (n : Nest) → Reading bytes to → LexAt bytes (cond t (open_at to n) broken)
    cond-lex true n k = k
    cond-lex false n k = tt
placed-lex r bytes to start h k = cond-lex (goes_with r to start) start k
  where
    cond-lex : (t : Bool) (n : Nest) → Reading bytes to → LexAt bytes (cond t (open_at to n) broken)
    cond-lex true n k = k
    cond-lex false n k = tt
placed-lex r bytes to n h k = cond-lex (goes_with r to n) n k
  where
    cond-lex : (t : Bool) (n : Nest) → Reading bytes to → LexAt bytes (cond t (open_at to n) broken)
    cond-lex true n k = k
    cond-lex false n k = tt

settled-lex : (r : Rules) (bytes : List ℕ) (st : State) (n : Nest) (b : ℕ) (o : Outcome) → turn st b ≡ o → IsSound r st n → Reading bytes st
    → LexAt (bytes ++ b ∷ []) (settled r n o)
settled-lex r bytes st n b (leads to us) e s k = placed-lex r (bytes ++ b ∷ []) to (nest_all r n us) (fits-next r st to b n us e s.calm_is s.opens s.fits)
    (reading-on bytes st to b us s.live e k)
settled-lex r bytes st n b (fails f) e s k = tt

next-lex : (r : Rules) (bytes : List ℕ) (f : Frame) (b : ℕ) → Sound r f → LexAt bytes f → LexAt (bytes ++ b ∷ []) (frame_next r f b)
next-lex r bytes (open_at st n) b s k = settled-lex r bytes st n b (turn st b) refl s k
next-lex r bytes ended b s (ret, k) =
    cond_both (is_space b) ended broken (LexAt (bytes ++ b ∷ []))
    (λ e. let (ret1, us, f, words) = spaced ret b e in (ret1, reading-on bytes (after_end ret) (after_end ret1) b us (end-live ret) f k)) (λ e. tt)
next-lex r bytes broken b s k = tt

after-lex : (r : Rules) (bytes : List ℕ) (f : Frame) (bs : List ℕ) → Sound r f → LexAt bytes f → LexAt (bytes ++ bs) (frame_after r f bs)
after-lex r bytes f [] s k = subst (λ (l : List ℕ). LexAt l f) (sym (append-nil bytes)) k
after-lex r bytes f (b ∷ bs) s k =
    subst (λ (l : List ℕ). LexAt l (frame_after r (frame_next r f b) bs)) (append_assoc bytes (b ∷ []) bs)
    (after-lex r (bytes ++ b ∷ []) (frame_next r f b) bs (next-sound r f b s) (next-lex r bytes f b s k))

first-lex : LexAt [] first_frame
unfolding is_live
first-lex = ([], leads-first_character (at stage.Start pending.Nothing false) refl refl)

-- Kinds that earlier rows leave.

rank-top : (f : FrameFault) → rank f ≤ 7
rank-top fault.TooLong = omega arith
rank-top f = omega arith

before : (r : Rules) (bytes : List ℕ) (f g : FrameFault) → rank g < rank f → (1 < rank f → Row r fault.TooDeep bytes → ⊥)
    → (2 < rank f → Row r fault.TooManyAttrs bytes → ⊥) → (3 < rank f → Row r fault.BadEncoding bytes → ⊥)
    → (4 < rank f → Row r fault.Restricted bytes → ⊥) → (5 < rank f → Row r fault.BadFormat bytes → ⊥) → Row r g bytes → ⊥
before r bytes f fault.TooLong h a b c d e x = x
before r bytes f fault.TooDeep h a b c d e x = a h x
before r bytes f fault.TooManyAttrs h a b c d e x = b h x
before r bytes f fault.BadEncoding h a b c d e x = c h x
before r bytes f fault.Restricted h a b c d e x = d h x
before r bytes f fault.BadFormat h a b c d e x = e h x
before r bytes f fault.BadPrefix h a b c d e x = x
before r bytes f fault.NotWellFormed h a b c d e x = let top = rank-top f in omega arith

never : {A : Type 0} (m n : ℕ) → n ≤ m → m < n → A
never m n h k = absurd (omega arith)

-- Lexical faults.

lexical-kind : (r : Rules) (bytes : List ℕ) (g : LexFault) → (BeginsReading bytes → ⊥) → IsKind bytes g → (Begins (deeper r) bytes → ⊥)
    → (Begins (wider r) bytes → ⊥) → (Begins (looser r) bytes → ⊥)
    → IsSyntaxKind r (lexical_fault g) bytes
lexical-kind r bytes lexical.BadEncoding void kind d w l = (
  (void, kind),
  λ g h. before r bytes fault.BadEncoding g h (λ i. d) (λ i. w) (λ i. never 3 3 (omega arith) i) (λ i. never 4 3 (omega arith) i)
      (λ i. never 5 3 (omega arith) i),
)
lexical-kind r bytes lexical.Restricted void kind d w l = (
  (void, kind),
  λ g h. before r bytes fault.Restricted g h (λ i. d) (λ i. w) (λ i x. not-encoding kind x.1) (λ i. never 4 4 (omega arith) i)
      (λ i. never 5 4 (omega arith) i),
)
  where
    not-encoding : IsKind bytes lexical.Restricted → IsKind bytes lexical.BadEncoding → ⊥
    not-encoding k (inl never8) = never8 k.0
    not-encoding k (inr refused) = k.1 refused
lexical-kind r bytes lexical.NotWellFormed void kind d w l =
    (tt, λ g h. before r bytes fault.NotWellFormed g h (λ i. d) (λ i. w) (λ i x. not-encoding kind x.1) (λ i x. kind.1 lexical.Restricted x.1.2) (λ i. l))
  where
    not-encoding : IsKind bytes lexical.NotWellFormed → IsKind bytes lexical.BadEncoding → ⊥
    not-encoding k (inl never8) = never8 k.0
    not-encoding k (inr refused) = k.1 lexical.BadEncoding refused

-- Faults of the nesting: tried by rules that allow more.

abbrev Tried : Rules → List ℕ → Bool → Type 0
Tried q bytes t = (t ≡ false → Begins q bytes) × (t ≡ true → Begins q bytes → ⊥)

nesting-kind : (r : Rules) (bytes : List ℕ) (d w l : Bool) → BeginsReading bytes → Tried (deeper r) bytes d → Tried (wider r) bytes w → Tried (looser r) bytes l
    → IsSyntaxKind r (cond d (cond w (cond l fault.NotWellFormed fault.BadFormat) fault.TooManyAttrs) fault.TooDeep) bytes
nesting-kind r bytes false w l begun td tw tl = (
  td.0 refl,
  λ g h. before r bytes fault.TooDeep g h (λ i. never 1 1 (omega arith) i) (λ i. never 2 1 (omega arith) i) (λ i. never 3 1 (omega arith) i)
      (λ i. never 4 1 (omega arith) i) (λ i. never 5 1 (omega arith) i),
)
nesting-kind r bytes true false l begun td tw tl = (
  tw.0 refl,
  λ g h. before r bytes fault.TooManyAttrs g h (λ i. td.1 refl) (λ i. never 2 2 (omega arith) i) (λ i. never 3 2 (omega arith) i)
      (λ i. never 4 2 (omega arith) i) (λ i. never 5 2 (omega arith) i),
)
nesting-kind r bytes true true false begun td tw tl = (
  tl.0 refl,
  λ g h. before r bytes fault.BadFormat g h (λ i. td.1 refl) (λ i. tw.1 refl) (λ i x. x.0 begun) (λ i x. x.0 begun)
      (λ i. never 5 5 (omega arith) i),
)
nesting-kind r bytes true true true begun td tw tl =
    (tt, λ g h. before r bytes fault.NotWellFormed g h (λ i. td.1 refl) (λ i. tw.1 refl) (λ i x. x.0 begun) (λ i x. x.0 begun) (λ i. tl.1 refl))

-- Each frame.

allows-deeper : (r : Rules) → Allows r (deeper r)
allows-deeper r = record { depth = omega arith; attributes = omega arith; loose = λ e. e }

allows-wider : (r : Rules) → Allows r (wider r)
allows-wider r = record { depth = omega arith; attributes = omega arith; loose = λ e. e }

allows-looser : (r : Rules) → Allows r (looser r)
allows-looser r = record { depth = omega arith; attributes = omega arith; loose = λ e. refl }

tried : (r q : Rules) (bytes : List ℕ) (b : ℕ) → Allows r q → is_broken (frame_after r first_frame bytes) ≡ false
    → Tried q (bytes ++ b ∷ []) (is_broken (frame_next q (frame_after r first_frame bytes) b))
tried r q bytes b a e =
    let same : frame_after q first_frame (bytes ++ b ∷ []) ≡ frame_next q (frame_after r first_frame bytes) b =
    after-snoc q first_frame bytes b ∙ ap (λ (f : Frame). frame_next q f b) (sym (after-kept r q first_frame bytes a e)) in
    (λ t. open-begins q (bytes ++ b ∷ []) (ap is_broken same ∙ t), λ t. broken-begins q (bytes ++ b ∷ []) (ap is_broken same ∙ t))

outcome-kind : (r : Rules) (bytes : List ℕ) (f : Frame) (st : State) (b : ℕ) (o : Outcome) → turn st b ≡ o → is_live st ≡ true → Reading bytes st
    → Tried (deeper r) (bytes ++ b ∷ []) (is_broken (frame_next (deeper r) f b)) → Tried (wider r) (bytes ++ b ∷ []) (is_broken (frame_next (wider r) f b))
    → Tried (looser r) (bytes ++ b ∷ []) (is_broken (frame_next (looser r) f b))
    → ((g : LexFault) → o ≡ fails g → (q : Rules) → is_broken (frame_next q f b) ≡ true) → IsSyntaxKind r (byte_fault r f b o) (bytes ++ b ∷ [])
outcome-kind r bytes f st b (fails g) e live (ts, k) td tw tl none =
    let h : Fails st b g = subst (Does st b) e (does st b live) in
    lexical-kind r (bytes ++ b ∷ []) g (not-begun bytes ts st b g k h) (kind-of-fault bytes ts st b g k h) (td.1 (none g refl (deeper r)))
    (tw.1 (none g refl (wider r))) (tl.1 (none g refl (looser r)))
outcome-kind r bytes f st b (leads to us) e live k td tw tl none =
    let (ts, m) = reading-on bytes st to b us live e k in nesting-kind r (bytes ++ b ∷ []) (is_broken (frame_next (deeper r) f b))
    (is_broken (frame_next (wider r) f b)) (is_broken (frame_next (looser r) f b)) m.begins td tw tl

open-none : (st : State) (n : Nest) (b : ℕ) (g : LexFault) → turn st b ≡ fails g → (q : Rules) → is_broken (frame_next q (open_at st n) b) ≡ true
open-none st n b g e q = ap (λ (o : Outcome). is_broken (settled q n o)) e

-- After the end a carriage return makes no difference to a fault.

wide-blamed : (r : Rules) (f : Frame) (b : ℕ) (x : Reach)
    → byte_fault r f b (turn_wide (at (stage.Text Words) pending.Nothing true) b x)
    ≡ byte_fault r f b (turn_wide (at (stage.Text Words) pending.Nothing false) b x)
unfolding turn_wide
wide-blamed r f b (Begun q low high) = both-ways (has_between (class_of (allowed_at (stage.Text Words))) low high)
  where
    both-ways : (t : Bool) → byte_fault r f b
        (cond t (leads (at (stage.Text Words) q true) (byte_told (voice (stage.Text Words)) pending.Nothing b)) (fails (fault_of (stage.Text Words) low high)))
        ≡ byte_fault r f b (cond t (leads (at (stage.Text Words) q false) (byte_told (voice (stage.Text Words)) pending.Nothing b))
        (fails (fault_of (stage.Text Words) low high)))
    both-ways true = refl
    both-ways false = refl
wide-blamed r f b (Whole n) = refl
wide-blamed r f b Broken = refl

not-ten : (b : ℕ) → is_space b ≡ false → (b == 10) ≡ false
not-ten b h = grind (arith, nat_tests)

ascii-blamed : (r : Rules) (f : Frame) (b : ℕ) → is_space b ≡ false
    → byte_fault r f b (turn_ascii (at (stage.Text Words) pending.Nothing true) b)
    ≡ byte_fault r f b (turn_ascii (at (stage.Text Words) pending.Nothing false) b)
unfolding turn_ascii
ascii-blamed r f b h = ap (byte_fault r f b) (cond-false _ _ _ (not-ten b h))

turn-blamed : (r : Rules) (f : Frame) (b : ℕ) (ret : Bool) → is_space b ≡ false
    → byte_fault r f b (turn (after_end ret) b) ≡ byte_fault r f b (turn (at (stage.Text Words) pending.Nothing false) b)
turn-blamed r f b false h = refl
turn-blamed r f b true h = by (nat_lt b 128)
  where
    by : (t : Bool) → byte_fault r f b
        (cond t (turn_ascii (at (stage.Text Words) pending.Nothing true) b)
        (turn_wide (at (stage.Text Words) pending.Nothing true) b (reach pending.Nothing b)))
        ≡ byte_fault r f b (cond t (turn_ascii (at (stage.Text Words) pending.Nothing false) b)
        (turn_wide (at (stage.Text Words) pending.Nothing false) b (reach pending.Nothing b)))
    by true = ascii-blamed r f b h
    by false = wide-blamed r f b (reach pending.Nothing b)

not-spaced : (r : Rules) (b : ℕ) → is_broken (frame_next r ended b) ≡ true → is_space b ≡ false
not-spaced r b h = by (is_space b) refl h
  where
    by : (t : Bool) → is_space b ≡ t → is_broken (cond t ended broken) ≡ true → is_space b ≡ false
    by true e h = false-true h
    by false e h = e

frame-kind : (r : Rules) (bytes : List ℕ) (f : Frame) (b : ℕ) → Sound r f → LexAt bytes f → is_broken f ≡ false → is_broken (frame_next r f b) ≡ true
    → Tried (deeper r) (bytes ++ b ∷ []) (is_broken (frame_next (deeper r) f b)) → Tried (wider r) (bytes ++ b ∷ []) (is_broken (frame_next (wider r) f b))
    → Tried (looser r) (bytes ++ b ∷ []) (is_broken (frame_next (looser r) f b))
    → IsSyntaxKind r (fault_at r f b) (bytes ++ b ∷ [])
frame-kind r bytes (open_at st n) b s k e h td tw tl = outcome-kind r bytes (open_at st n) st b (turn st b) refl s.live k td tw tl (λ g. open-none st n b g)
frame-kind r bytes ended b s (ret, k) e h td tw tl =
    let black = not-spaced r b h in
    subst (λ (f : FrameFault). IsSyntaxKind r f (bytes ++ b ∷ [])) (turn-blamed r ended b ret black)
    (outcome-kind r bytes ended (after_end ret) b (turn (after_end ret) b) refl (end-live ret) k td tw tl
    (λ g i q. ap (λ (t : Bool). is_broken (cond t ended broken)) black))
frame-kind r bytes broken b s k e h td tw tl = absurd (let bad : true ≡ false = e in cc)

pub fault-kind : (r : Rules) (bytes : List ℕ) (b : ℕ) → is_broken (frame_after r first_frame bytes) ≡ false
    → is_broken (frame_next r (frame_after r first_frame bytes) b) ≡ true
    → IsSyntaxKind r (fault_at r (frame_after r first_frame bytes) b) (bytes ++ b ∷ [])
fault-kind r bytes b e h =
    frame-kind r bytes (frame_after r first_frame bytes) b (after-sound r first_frame bytes (first-sound r))
    (after-lex r [] first_frame bytes (first-sound r) first-lex) e h
    (tried r (deeper r) bytes b (allows-deeper r) e) (tried r (wider r) bytes b (allows-wider r) e) (tried r (looser r) bytes b (allows-looser r) e)
