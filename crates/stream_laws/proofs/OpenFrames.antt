-- Where bytes lead that tell tokens, as long as a stream goes on with them.
use Rattle.std.proofs.Common.{◌≡◌, ℕ, ◌⊎◌, inl, inr, List, [], ◌∷◌, ◌++◌, refl, sym, ap, ◌∙◌, subst, append_assoc, Bool, true, false, cond}
use Rattle.std.specs.Prelude.{codes}
use Rattle.stream_lex.specs.declared.LexFault.{LexFault}
use Rattle.stream_lex.specs.declared.Token.{Token}
use Rattle.stream_lex.specs.declared.stages.State.{State}
use Rattle.stream_lex.specs.machine.Turns.{Outcome, leads, fails, turn}
use Rattle.stream_lex.proofs.Lists.{false-true}
use Rattle.stream_grammar.specs.declared.rules.Rules.{Rules}
use Rattle.stream_grammar.specs.grammar.Trees.{RawName, RawTag, Content, is_space}
use Rattle.stream_grammar.specs.machine.Nesting.{Nest, start, inside, lost, nest_all}
use Rattle.stream_grammar.specs.machine.Framing.{Frame, open_at, ended, broken, placed, settled, frame_next, frame_after, first_frame, is_broken, has_ended}
use Rattle.stream_grammar.specs.grammar.Items.{head_tokens, HasCome}
use Rattle.stream_grammar.specs.machine.Ends.{tokens_told}
use Rattle.stream_grammar.specs.grammar.Streams.{Spells}
use Rattle.stream_grammar.proofs.Following.{Sound}
use Rattle.stream_grammar.proofs.Nested.{all-more}
use Rattle.stream_grammar.proofs.Running.{then_run, run_on, run}
use Rattle.stream_laws.proofs.Coming.{told_all}
use Rattle.stream_laws.proofs.LastTold.{Placed, placed-cases}
use Rattle.stream_laws.proofs.Extents.{after-last, sound-at}
use Rattle.stream_laws.proofs.OpenItems.{goes-whole, come-whole}
use Rattle.stream_laws.proofs.OpenRuns.{head-leads}
use Rattle.stream_laws.proofs.RoundTripInsert.{come-runs, come-ends}
use Rattle.stream_laws.proofs.RoundTripStreams.{first_state}
use Rattle.stream_laws.proofs.RoundTripTags.{gap_state}
use Rattle.stream_laws.proofs.RoundTripText.{Gap}

lead-state : (s t : State) (us vs : List Token) → leads s us ≡ leads t vs → s ≡ t
lead-state s t us vs e = cc

lead-told : (s t : State) (us vs : List Token) → leads s us ≡ leads t vs → us ≡ vs
lead-told s t us vs e = cc

fail-lead : (f : LexFault) (t : State) (vs : List Token) → fails f ≡ leads t vs → ⊥
fail-lead f t vs e = cc

-- A frame that is neither broken nor at its end.

abbrev pub GoesOn : Frame → Type 0
GoesOn f = (is_broken f ≡ false) × (has_ended f ≡ false)

broken-stays : (r : Rules) (bs : List ℕ) → frame_after r broken bs ≡ broken
broken-stays r [] = refl
broken-stays r (b ∷ bs) = broken-stays r bs

-- after the end no stream is open again
ended-stays : (r : Rules) (bs : List ℕ) → GoesOn (frame_after r ended bs) → ⊥
ended-stays r [] on = false-true (sym on.1)
ended-stays r (b ∷ bs) on = by (is_space b) (λ h. ended-stays r bs h) on
  where
    by : (t : Bool) → (GoesOn (frame_after r ended bs) → ⊥) → GoesOn (frame_after r (cond t ended broken) bs) → ⊥
    by true go h = go h
    by false go h = false-true (sym (sym (ap is_broken (broken-stays r bs)) ∙ h.0))

pub went-on : (r : Rules) (f : Frame) (bs : List ℕ) → GoesOn (frame_after r f bs) → has_ended f ≡ false
went-on r ended bs on = absurd (ended-stays r bs on)
went-on r broken bs on = refl
went-on r (open_at st n) bs on = refl

placed-on : (r : Rules) (s : State) (k : Nest) (bs : List ℕ) → GoesOn (frame_after r (placed r s k) bs) → placed r s k ≡ open_at s k
placed-on r s k bs on = by (placed-cases r s k)
  where
    by : Placed r s k → placed r s k ≡ open_at s k
    by (inl o) = o
    by (inr (inl (o, is))) = absurd (ended-stays r bs (subst (λ (f : Frame). GoesOn (frame_after r f bs)) o on))
    by (inr (inr o)) = false-true (sym (sym (ap is_broken (broken-stays r bs)) ∙ (ap (λ (f : Frame). is_broken (frame_after r f bs)) (sym o) ∙ on.0)))

-- The frame has the state and the nesting, and what is told is what the lexical layer told.

abbrev pub IsThere : Rules → State → Nest → List ℕ → State → List Token → Type 0
IsThere r st n bs to ts = (frame_after r (open_at st n) bs ≡ open_at to (nest_all r n ts)) × (told_all r (open_at st n) bs ≡ ts)

there-next : (r : Rules) (st s to : State) (n : Nest) (b : ℕ) (bs : List ℕ) (us vs ts : List Token) → turn st b ≡ leads s us → us ++ vs ≡ ts
    → placed r s (nest_all r n us) ≡ open_at s (nest_all r n us)
    → IsThere r s (nest_all r n us) bs to vs → IsThere r st n (b ∷ bs) to ts
there-next r st s to n b bs us vs ts e same o (frame, told) =
    let next : frame_next r (open_at st n) b ≡ open_at s (nest_all r n us) = ap (settled r n) e ∙ o in (
      ap (λ (x : Frame). frame_after r x bs) next ∙ (frame ∙ ap (open_at to) (sym (all-more r n us vs) ∙ ap (nest_all r n) same)),
      ap (λ (x : Outcome). tokens_told x ++ told_all r (frame_next r (open_at st n) b) bs) e
          ∙ (ap (λ (x : Frame). us ++ told_all r x bs) next ∙ (ap (λ (x : List Token). us ++ x) told ∙ same)),
    )

pub frame-runs : (bs : List ℕ) (r : Rules) (st to : State) (n : Nest) (ts : List Token) → run st bs ≡ leads to ts → GoesOn (frame_after r (open_at st n) bs)
    → IsThere r st n bs to ts
frame-runs [] r st to n ts e on =
    let none : [] ≡ ts = lead-told st to [] ts e in
    (ap (λ (s : State). open_at s n) (lead-state st to [] ts e) ∙ ap (λ (l : List Token). open_at to (nest_all r n l)) none, none)
frame-runs (b ∷ bs) r st to n ts e on = by (turn st b) refl e on (λ s k vs p q. frame-runs bs r s to k vs p q)
  where
    next : (s : State) (us : List Token) → turn st b ≡ leads s us → GoesOn (frame_after r (placed r s (nest_all r n us)) bs)
        → ((k : Nest) (vs : List Token) → run s bs ≡ leads to vs → GoesOn (frame_after r (open_at s k) bs) → IsThere r s k bs to vs)
        → (o : Outcome) → run s bs ≡ o → then_run us o ≡ leads to ts → IsThere r st n (b ∷ bs) to ts
    next s us h on go (leads t vs) p q =
        let o : placed r s (nest_all r n us) ≡ open_at s (nest_all r n us) = placed-on r s (nest_all r n us) bs on in
        let there : IsThere r s (nest_all r n us) bs to vs =
        go (nest_all r n us) vs (p ∙ ap (λ (x : State). leads x vs) (lead-state t to (us ++ vs) ts q))
        (subst (λ (f : Frame). GoesOn (frame_after r f bs)) o on) in
        there-next r st s to n b bs us vs ts h (lead-told t to (us ++ vs) ts q) o there
    next s us h on go (fails f) p q = absurd (fail-lead f to ts q)

    by : (o : Outcome) → turn st b ≡ o → run_on o (λ s. run s bs) ≡ leads to ts → GoesOn (frame_after r (settled r n o) bs)
        → ((s : State) (k : Nest) (vs : List Token) → run s bs ≡ leads to vs → GoesOn (frame_after r (open_at s k) bs) → IsThere r s k bs to vs)
        → IsThere r st n (b ∷ bs) to ts
    by (leads s us) h e on go = next s us h on (go s) (run s bs) refl e
    by (fails f) h e on go = absurd (fail-lead f to ts e)

-- The start of a stream that has come.

pub record IsAfter (r : Rules) (bytes : List ℕ) (ts : List Token) : Type 0 where
  pub gap : Gap
  pub returned : Bool
  pub name : RawName
  pub frame : frame_after r first_frame bytes ≡ open_at (gap_state gap returned) (inside (name ∷ []))
  pub told : told_all r first_frame bytes ≡ ts

is-ended : (f : Frame) → has_ended f ≡ true → f ≡ ended
is-ended ended e = refl
is-ended broken e = false-true e
is-ended (open_at st n) e = false-true e

-- its end tag may follow, so it has not ended
pub come-on : (r : Rules) (bytes : List ℕ) (root : RawTag) (f : Content) → HasCome r bytes root f → GoesOn (frame_after r first_frame bytes)
come-on r bytes root f come = (come-whole r bytes root f come, by (has_ended (frame_after r first_frame bytes)) refl)
  where
    next : is_broken (frame_after r first_frame (bytes ++ 60 ∷ [])) ≡ false
    next =
        let (d, spells) = come-ends r bytes root f come in
        goes-whole r (bytes ++ 60 ∷ []) (
          47 ∷ ((root.name.0 ∷ root.name.1) ++ codes ">"),
          record { declared = d; root = root; content = f },
          subst
              (λ (x : List ℕ). Spells r x (record { declared = d; root = root; content = f }))
              (sym (append_assoc bytes (60 ∷ []) (47 ∷ ((root.name.0 ∷ root.name.1) ++ codes ">")))) spells,
        )

    by : (t : Bool) → has_ended (frame_after r first_frame bytes) ≡ t → t ≡ false
    by true e = false-true (sym (ap (λ (x : Frame). is_broken (frame_next r x 60)) (sym (is-ended (frame_after r first_frame bytes) e))
        ∙ (ap is_broken (sym (after-last r bytes 60)) ∙ next)))
    by false e = refl

pub come-after : (r : Rules) (bytes : List ℕ) (root : RawTag) (f : Content) → HasCome r bytes root f → (d : Bool) × IsAfter r bytes (head_tokens d root f)
come-after r bytes root f (d, reads, short, keeps) =
    let (g, c, run) = come-runs r bytes d root f reads in
    let (frame, told) = frame-runs bytes r first_state (gap_state g c) start (head_tokens d root f) run.leads_so
    (come-on r bytes root f (d, reads, short, keeps)) in
    (d, by g c frame told (head-leads r d root f))
  where
    by : (g : Gap) (c : Bool) → frame_after r first_frame bytes ≡ open_at (gap_state g c) (nest_all r start (head_tokens d root f))
        → told_all r first_frame bytes ≡ head_tokens d root f
        → ((k : RawName) × (nest_all r start (head_tokens d root f) ≡ inside (k ∷ []))) ⊎ (nest_all r start (head_tokens d root f) ≡ lost)
        → IsAfter r bytes (head_tokens d root f)
    by g c frame told (inl (k, e)) = record { gap = g; returned = c; name = k; frame = frame ∙ ap (open_at (gap_state g c)) e; told = told }
    by g c frame told (inr e) = absurd (subst (Sound r) (frame ∙ ap (open_at (gap_state g c)) e) (sound-at r bytes)).opens
