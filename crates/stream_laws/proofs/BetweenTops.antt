-- Between top elements: where the frames stand there, and what was read.
use Rattle.std.proofs.Common.{◌≡◌, ℕ, ◌⊎◌, inl, inr, List, [], ◌∷◌, ◌++◌, refl, sym, ap, ◌∙◌, subst, Bool, true, false}
use Rattle.stream_lex.specs.declared.Token.{Token}
use Rattle.stream_lex.specs.declared.stages.Context.TheVariants.{Words}
use Rattle.stream_lex.specs.declared.stages.Stage.TheVariants as stage
use Rattle.stream_lex.specs.declared.stages.State.{State}
use Rattle.stream_lex.specs.declared.characters.Pending.TheVariants as pending
use Rattle.stream_lex.specs.grammar.Expressions.{all_said, IsText}
use Rattle.stream_lex.specs.grammar.Reading.{Reads}
use Rattle.stream_lex.specs.machine.Leading.{Left}
use Rattle.stream_lex.specs.machine.Live.{is_live}
use Rattle.stream_lex.specs.machine.Rests.{rest_at}
use Rattle.stream_lex.specs.machine.Turns.{Outcome, leads, fails, at, turn}
use Rattle.stream_lex.proofs.ByteSteps.{plain-left}
use Rattle.stream_lex.proofs.Lists.{false-true}
use Rattle.stream_lex.proofs.Living.{LeadsLive}
use Rattle.stream_grammar.specs.declared.rules.Rules.{Rules}
use Rattle.stream_grammar.specs.grammar.Extents.{IsBetweenTops}
use Rattle.stream_grammar.specs.grammar.Items.{head_tokens}
use Rattle.stream_grammar.specs.grammar.Trees.{RawName, end_tokens}
use Rattle.stream_grammar.specs.machine.Nesting.{Nest, start, inside, lost, nest_all, Leaves}
use Rattle.stream_grammar.specs.machine.Framing.{Frame, open_at, ended, broken, placed, settled, frame_next, frame_after, first_frame, is_broken}
use Rattle.stream_grammar.specs.machine.Ends.{tokens_told}
use Rattle.stream_grammar.proofs.Following.{Sound, left-from, any-live}
use Rattle.stream_grammar.proofs.Nested.{all-from}
use Rattle.stream_grammar.specs.machine.Sorts.{at_content}
use Rattle.stream_grammar.specs.machine.Sorts.{sort_of}
use Rattle.stream_grammar.proofs.Whole.{first-sound, left-first}
use Rattle.stream_laws.proofs.Coming.{told_all, came, placed-is, leaves-end}
use Rattle.stream_laws.proofs.Ending.{head-of}
use Rattle.stream_laws.proofs.Extents.{sound-at}
use Rattle.stream_laws.proofs.LastTold.{Placed, placed-cases}
use Rattle.stream_laws.proofs.AtLessSign.{is_first, BySixty, by-sixty}
use Rattle.stream_laws.proofs.OpenFrames.{GoesOn, frame-runs}
use Rattle.stream_laws.proofs.OpenRuns.{head-leads}
use Rattle.stream_laws.proofs.Opens.{after_less}
use Rattle.stream_laws.proofs.RoundTripInsert.{come-runs}
use Rattle.stream_laws.proofs.RoundTripStreams.{EndsGap, first_state}
use Rattle.stream_laws.proofs.RoundTripTags.{gap_state, less-turn}
use Rattle.stream_laws.proofs.RoundTripText.{Gap, plain, bracketed}

-- A text may end between tags.

gap-left : (g : Gap) (c : Bool) → Left (gap_state g c) [] []
unfolding rest_at IsText
gap-left plain c = plain-left (stage.Text Words) c [] []
    ([], refl, refl, ([], [], [], [], (0, (refl, refl)), ([], [], [], [], (0, (refl, refl)), (0, (refl, refl)), refl, refl), refl, refl))
gap-left (bracketed b) c = plain-left (stage.Bracketed b) c [] [] ([], refl, refl, inr ([], [], [], [], (0, (refl, refl)), (0, (refl, refl)), refl, refl))

state-same : (s t : State) (n m : Nest) → open_at s n ≡ open_at t m → s ≡ t
state-same s t n m e = cc

broken-never : (r : Rules) (bs : List ℕ) (to : State) (m : Nest) → frame_after r broken bs ≡ open_at to m → ⊥
broken-never r [] to m e = cc
broken-never r (b ∷ bs) to m e = broken-never r bs to m e

told-left : (bs : List ℕ) (r : Rules) (st to : State) (n m : Nest) → is_live st ≡ true → frame_after r (open_at st n) bs ≡ open_at to m → Left to [] []
    → Left st bs (all_said (told_all r (open_at st n) bs))
told-left [] r st to n m live e l = subst (λ (s : State). Left s [] []) (sym (state-same st to n m e)) l
told-left (b ∷ bs) r st to n m live e l = by (λ s k v f. told-left bs r s to k m v f l) (turn st b) refl e
  where
    Later : Type 0
    Later = (s : State) (k : Nest) → is_live s ≡ true → frame_after r (open_at s k) bs ≡ open_at to m → Left s bs (all_said (told_all r (open_at s k) bs))

    next : Later → (s : State) (us : List Token) → turn st b ≡ leads s us → frame_after r (placed r s (nest_all r n us)) bs ≡ open_at to m
        → Left st (b ∷ bs) (all_said (told_all r (open_at st n) (b ∷ bs)))
    next go s us f h =
        let k : Nest = nest_all r n us in
        let o : placed r s k ≡ open_at s k = placed-is r s k bs to m h in
        let later : Left s bs (all_said (told_all r (open_at s k) bs)) =
        go s k (subst LeadsLive f (any-live st b live)) (ap (λ (x : Frame). frame_after r x bs) (sym o) ∙ h) in
        let told : us ++ told_all r (open_at s k) bs ≡ told_all r (open_at st n) (b ∷ bs) = ap (λ (x : Frame). us ++ told_all r x bs) (sym o)
        ∙ ap (λ (x : Outcome). tokens_told x ++ told_all r (settled r n x) bs) (sym f) in
        subst (λ (x : List Token). Left st (b ∷ bs) (all_said x)) told (left-from st s b us bs (told_all r (open_at s k) bs) live f later)

    by : Later → (o : Outcome) → turn st b ≡ o → frame_after r (settled r n o) bs ≡ open_at to m
        → Left st (b ∷ bs) (all_said (told_all r (open_at st n) (b ∷ bs)))
    by go (leads s us) f h = next go s us f h
    by go (fails x) f h = absurd (broken-never r bs to m h)

-- what was read there
pub between-read : (r : Rules) (bytes : List ℕ) (g : Gap) (c : Bool) (m : RawName) → frame_after r first_frame bytes ≡ open_at (gap_state g c) (inside (m ∷ []))
    → IsBetweenTops bytes
between-read r bytes g c m e =
    let us : List Token = told_all r first_frame bytes in
    let live : is_live first_state ≡ true = (first-sound r).live in
    let (h, carried) = came bytes r first_state (gap_state g c) start (inside (m ∷ [])) live e in
    let reads : Reads bytes us = left-first bytes us (told-left bytes r first_state (gap_state g c) start (inside (m ∷ [])) live e (gap-left g c)) in
    let (s, keeps, is) = all-from r start us (end_tokens m) tt (subst (λ (x : Nest). Leaves r x (end_tokens m)) (sym h) (leaves-end r m)) in
    (s.declared, s.root, s.content, subst (Reads bytes) (head-of s us m is) reads)

-- The frame there, where a stream goes on.

goes-on : (r : Rules) (f : Frame) → is_broken (frame_next r f 60) ≡ false → GoesOn f
goes-on r (open_at st n) w = (refl, refl)
goes-on r ended w = false-true (sym w)
goes-on r broken w = false-true (sym w)

pub record IsBetween (r : Rules) (bytes : List ℕ) : Type 0 where
  pub gap : Gap
  pub returned : Bool
  pub name : RawName
  pub frame : frame_after r first_frame bytes ≡ open_at (gap_state gap returned) (inside (name ∷ []))

pub between-frame : (r : Rules) (bytes : List ℕ) → is_broken (frame_next r (frame_after r first_frame bytes) 60) ≡ false → IsBetweenTops bytes
    → IsBetween r bytes
between-frame r bytes w (d, root, f, reads) =
    let (g, c, run) = come-runs r bytes d root f reads in
    let (frame, told) = frame-runs bytes r first_state (gap_state g c) start (head_tokens d root f) run.leads_so (goes-on r (frame_after r first_frame bytes) w)
    in
    by g c frame (head-leads r d root f)
  where
    by : (g : Gap) (c : Bool) → frame_after r first_frame bytes ≡ open_at (gap_state g c) (nest_all r start (head_tokens d root f))
        → ((k : RawName) × (nest_all r start (head_tokens d root f) ≡ inside (k ∷ []))) ⊎ (nest_all r start (head_tokens d root f) ≡ lost) → IsBetween r bytes
    by g c frame (inl (k, e)) = record { gap = g; returned = c; name = k; frame = frame ∙ ap (open_at (gap_state g c)) e }
    by g c frame (inr e) = absurd (subst (Sound r) (frame ∙ ap (open_at (gap_state g c)) e) (sound-at r bytes)).opens

-- After a `<` there.

not-both : (t : Bool) → t ≡ true → t ≡ false → ⊥
not-both t e f = false-true (sym f ∙ e)

placed-there : (r : Rules) (s : State) (m : RawName) → is_broken (placed r s (inside (m ∷ []))) ≡ false
    → placed r s (inside (m ∷ [])) ≡ open_at s (inside (m ∷ []))
placed-there r s m w = by (placed-cases r s (inside (m ∷ [])))
  where
    by : Placed r s (inside (m ∷ [])) → placed r s (inside (m ∷ [])) ≡ open_at s (inside (m ∷ []))
    by (inl e) = e
    by (inr (inl (e, is))) = absurd (let bad : inside (m ∷ []) ≡ inside [] = is in cc)
    by (inr (inr e)) = absurd (not-both _ (ap is_broken e) w)

pub between-less : (r : Rules) (bytes : List ℕ) (i : IsBetween r bytes) → is_broken (frame_next r (frame_after r first_frame bytes) 60) ≡ false
    → frame_next r (frame_after r first_frame bytes) 60 ≡ open_at (at stage.Less pending.Nothing false) (inside (i.name ∷ []))
between-less r bytes i w =
    let next : frame_next r (frame_after r first_frame bytes) 60 ≡ placed r (at stage.Less pending.Nothing false) (inside (i.name ∷ [])) =
    ap (λ (x : Frame). frame_next r x 60) i.frame ∙ ap (settled r (inside (i.name ∷ []))) (less-turn i.gap i.returned) in
    next ∙ placed-there r (at stage.Less pending.Nothing false) i.name (ap is_broken (sym next) ∙ w)

-- And where a `<` leads to a tag while only the stream is open, it stands between tags.

nest-same : (s t : State) (n m : Nest) → open_at s n ≡ open_at t m → n ≡ m
nest-same s t n m e = cc

frame-same : (st to : State) (k n : Nest) → open_at to k ≡ open_at st n → (to ≡ st) × (k ≡ n)
frame-same st to k n e = (state-same to st k n e, nest-same to st k n e)

pub less-between : (r : Rules) (bytes : List ℕ) (st : State) (m : RawName) → frame_next r (frame_after r first_frame bytes) 60 ≡ open_at st (inside (m ∷ []))
    → after_less st ≡ true → IsBetween r bytes
less-between r bytes st m e less = by (frame_after r first_frame bytes) refl (sound-at r bytes) e
  where
    gap : (s0 : State) → EndsGap s0 → frame_after r first_frame bytes ≡ open_at s0 (inside (m ∷ [])) → IsBetween r bytes
    gap s0 (g, c, is) at_it = record { gap = g; returned = c; name = m; frame = at_it ∙ ap (λ (s : State). open_at s (inside (m ∷ []))) is }

    either : (s0 : State) → sort_of s0 ≡ at_content → (is_first (sort_of s0) ≡ true) ⊎ EndsGap s0
        → frame_after r first_frame bytes ≡ open_at s0 (inside (m ∷ [])) → IsBetween r bytes
    either s0 k (inl h) at_it = false-true (ap is_first (sym k) ∙ h)
    either s0 k (inr h) at_it = gap s0 h at_it

    placed-so : (to : State) (k : Nest) → placed r to k ≡ open_at st (inside (m ∷ [])) → (to ≡ st) × (k ≡ inside (m ∷ []))
    placed-so to k f = so (placed-cases r to k)
      where
        so : Placed r to k → (to ≡ st) × (k ≡ inside (m ∷ []))
        so (inl p) = frame-same st to k (inside (m ∷ [])) (sym p ∙ f)
        so (inr (inl (p, is))) = absurd (let bad : ended ≡ open_at st (inside (m ∷ [])) = sym p ∙ f in cc)
        so (inr (inr p)) = absurd (let bad : broken ≡ open_at st (inside (m ∷ [])) = sym p ∙ f in cc)

    led : (s0 : State) (n0 : Nest) (o : Outcome) → frame_after r first_frame bytes ≡ open_at s0 n0 → Sound r (open_at s0 n0)
        → settled r n0 o ≡ open_at st (inside (m ∷ [])) → BySixty s0 o → IsBetween r bytes
    led s0 n0 (leads to us) at_it sound f k =
        let (same, nested) = placed-so to (nest_all r n0 us) f in
        let (none, which) = k.1 (ap after_less same ∙ less) in
        let here : n0 ≡ inside (m ∷ []) = sym (ap (nest_all r n0) none) ∙ nested in
        let fits : Sound r (open_at s0 (inside (m ∷ []))) = subst (λ (x : Nest). Sound r (open_at s0 x)) here sound in
        either s0 fits.fits.0 which (at_it ∙ ap (open_at s0) here)
    led s0 n0 (fails x) at_it sound f k = absurd (let bad : broken ≡ open_at st (inside (m ∷ [])) = f in cc)

    by : (f : Frame) → frame_after r first_frame bytes ≡ f → Sound r f → frame_next r f 60 ≡ open_at st (inside (m ∷ [])) → IsBetween r bytes
    by (open_at s0 n0) at_it sound f = led s0 n0 (turn s0 60) at_it sound f (by-sixty s0)
    by ended at_it sound f = absurd (let bad : broken ≡ open_at st (inside (m ∷ [])) = f in cc)
    by broken at_it sound f = absurd (let bad : broken ≡ open_at st (inside (m ∷ [])) = f in cc)
