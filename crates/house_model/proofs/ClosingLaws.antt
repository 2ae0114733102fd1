-- After every history: what a connection is told as it ends.
use Rattle.std.proofs.Common.{◌≡◌, ◌⊎◌, inl, inr, ℕ, ◌+◌, List, [], ◌∷◌, Some, None, sym, ap, ◌∙◌, subst}
use Rattle.sm_resume.specs.declared.decision.Cause.{Cause}
use Rattle.sm_resume.specs.declared.decision.Cause.TheVariants.{Moved, Replaced, Overfull, TooHigh, Flood, Closed, Lost}
use Rattle.session_table.specs.declared.line.Line.TheVariants.{Logged, Bound, Over}
use Rattle.house_model.specs.declared.event.Event.{Event}
use Rattle.house_model.specs.declared.event.Event.TheVariants as event
use Rattle.house_model.specs.declared.reply.Reply.TheVariants as reply
use Rattle.house_model.specs.Sessions.{Hold, Held, Away, Ended, Gone}
use Rattle.house_model.specs.Traffic.{Traffic}
use Rattle.house_model.specs.States.{World, State, keep}
use Rattle.house_model.specs.Gate.{Verdict, most_answers, left}
use Rattle.house_model.specs.Steps.{turn}
use Rattle.house_model.specs.Histories.{Outcome, Made, Short, Turn, step, next, next_by, after, line_of, IsOpening}
use Rattle.house_model.specs.Losses.{IsFlooded, IsCut, before_it, after_it}
use Rattle.house_model.specs.Closings.{IsLeft, IsTold, IsToldBy, Closings, conn_at, stage_before, stage_after}
use Rattle.house_model.proofs.FitLemmas.{IsMatched}
use Rattle.house_model.proofs.SoundLemmas.{all_sound}
use Rattle.house_model.proofs.EventFits.{always_matched, next_back, starts_back}
use Rattle.house_model.proofs.TurnLaws.{next_sound, starts_sound}
use Rattle.house_model.proofs.Apart.{waits}
use Rattle.house_model.proofs.Deadlines.{AllUndue, always_undue, next_undue, starts_undue}
use Rattle.house_model.proofs.TurnCases as turned
use Rattle.house_model.proofs.TurnCases.{Course, Turned, effects_now}
use Rattle.house_model.proofs.FloodCases.{Floods, flooded_is, closed_line}
use Rattle.house_model.proofs.DepartureTurns.{turn_is}
use Rattle.house_model.proofs.EndingLaws.{cut_holds, close_holds}

-- What each line's course says.

module _ (st : State) (e : Event) (w : ℕ) where
  told_by : (c : ℕ) (cause : Cause) → Course st e w → stage_after st e w ≡ Over c cause
      → (stage_before st w ≡ Over c cause) ⊎ ((conn_at (stage_before st w) ≡ Some c) × IsToldBy st e w c cause)
  told_by c cause (turned.stays same) is = inl (sym same ∙ is)
  told_by c cause (turned.joins d wait none) is = absurd (none c cause is)
  told_by c cause (turned.leaves gone none) is = absurd (none c cause is)
  told_by c cause (turned.closes d other conn now why) is =
      let both : Over d other ≡ Over c cause = sym now ∙ is in
      let one : d ≡ c = cc in
      let two : other ≡ cause = cc in
      inr (conn ∙ ap Some one, subst (λ (k : Cause). IsToldBy st e w c k) two (subst (λ (i : ℕ). IsToldBy st e w i other) one why))

  stays_over : (c : ℕ) (cause : Cause) → Course st e w → stage_before st w ≡ Over c cause → (stage_after st e w ≡ Over c cause) ⊎ IsLeft e w
  stays_over c cause (turned.stays same) is = inl (same ∙ is)
  stays_over c cause (turned.joins d wait none) is = absurd (let bad : None ≡ Some d = sym (ap waits is) ∙ wait in cc)
  stays_over c cause (turned.leaves gone none) is = inr gone
  stays_over c cause (turned.closes d other conn now why) is = absurd (let bad : None ≡ Some d = sym (ap conn_at is) ∙ conn in cc)

told_is : (st : State) (e : Event) (w c : ℕ) (cause : Cause) → IsToldBy st e w c cause → IsTold cause
told_is st e w c (Moved n) why = tt
told_is st e w c (Replaced n) why = tt
told_is st e w c (Overfull kept queued) why = tt
told_is st e w c (TooHigh h kept sent) why = tt
told_is st e w c (Flood n) why = tt
told_is st e w c Closed why = absurd why
told_is st e w c Lost why = absurd why

-- No line is over for another cause.

abbrev AllTold : World Traffic → Type 0
AllTold world = (w c : ℕ) (cause : Cause) → (world.lines w).stage ≡ Over c cause → IsTold cause

step_told : (st : State) (e : Event) → IsMatched st.world → AllUndue st.world → AllTold st.world → AllTold (step st e).state.world
step_told st e m undue told w c cause is = elim (told_by st e w c cause ((turn_is st e m undue).course w) is) [
  | inl before ↦ told w c cause before
  | inr p ↦ told_is st e w c cause p.1
]

next_told : (st : State) (e : Event) (o : Outcome) → IsMatched st.world → AllUndue st.world → AllTold st.world → AllTold (next_by st e o).world
next_told st e (Made reply text) m undue told = step_told st e m undue told
next_told st e Short m undue told = told

after_told : (h : List Turn) (st : State) → IsMatched st.world → AllUndue st.world → AllTold st.world → AllTold (after st h).world
after_told [] st m undue told = told
after_told (x ∷ more) st m undue told =
    after_told more (next st x) (record { sound = next_sound st x m.sound; back = next_back st x.event x.outcome m })
    (next_undue st x.event x.outcome undue) (next_told st x.event x.outcome m undue told)

opening_told : (o : State) → IsOpening o → AllTold o.world
opening_told o starts = subst (λ (st : State). AllTold st.world) (sym starts.4) (λ w c cause bad. absurd (cc))

always_told : (o : State) (h : List Turn) → IsOpening o → AllTold (after o h).world
always_told o h starts =
    after_told h o (record { sound = starts_sound o starts; back = starts_back o starts }) (starts_undue o starts) (opening_told o starts)

-- A line that holds a session.

-- how the session is held where its connection is over for a cause
abbrev Speaks : State → Cause → Hold → Type 0
Speaks st (Moved n) m = (v : ℕ) × (m ≡ Held v n)
Speaks st (Replaced n) m = (m ≡ Gone) × (n ≡ st.world.made + 1)
Speaks st (Overfull kept queued) m = m ≡ Ended (Overfull kept queued)
Speaks st (TooHigh h kept sent) m = m ≡ Ended (TooHigh h kept sent)
Speaks st (Flood n) m = (m ≡ Ended Lost) ⊎ (m ≡ Away)
Speaks st Closed m = ⊥
Speaks st Lost m = ⊥

-- it is held on, it is let go, or its connection is over
data Told (st : State) (e : Event) (s w c : ℕ) : Type 0 where
  on : (after_it st e s).hold ≡ Held w c → Told st e s w c
  let_go : ((after_it st e s).hold ≡ Ended Closed) ⊎ (((after_it st e s).hold ≡ Ended Lost) ⊎ ((after_it st e s).hold ≡ Away)) → Told st e s w c
  over : (cause : Cause) → stage_after st e w ≡ Over c cause → Speaks st cause (after_it st e s).hold → Told st e s w c

flood_cuts : (e : Event) (st : State) (w : ℕ) → IsFlooded st e w → IsCut st e w
flood_cuts (event.DropLine v t) st w f = f.line
flood_cuts (event.OpenLine v) st w f = f.line
flood_cuts (event.Login v user) st w f = f
flood_cuts (event.Bind v id resource t dice) st w f = f
flood_cuts (event.Enable v wants dice) st w f = f
flood_cuts (event.Resume v id h t) st w f = f
flood_cuts (event.Act v x t) st w f = f
flood_cuts (event.Ack v h) st w f = f
flood_cuts (event.Ask v) st w f = f
flood_cuts (event.Pull v t) st w f = f
flood_cuts (event.CloseLine v t) st w f = f
flood_cuts (event.Sweep v t) st w f = f

module _ (st : State) (e : Event) (m : IsMatched st.world) (s w c : ℕ) (held : (before_it st s).hold ≡ Held w c) where
  bound : stage_before st w ≡ Bound c s
  bound = m.back s w c held

  one_session : (i d : ℕ) → (before_it st i).hold ≡ Held w d → i ≡ s
  one_session i d at = let both : Bound d i ≡ Bound c s = sym (m.back i w d at) ∙ bound in cc

  speaks : (cause : Cause) (d : ℕ) → IsToldBy st e w d cause → Speaks st cause (after_it st e s).hold
  speaks (Moved n) d why = (why.line, ap (λ (i : ℕ). (after_it st e i).hold) (sym (one_session why.session d why.held)) ∙ why.holds)
  speaks (Replaced n) d why = (ap (λ (i : ℕ). (after_it st e i).hold) (sym (one_session why.session d why.held)) ∙ why.departs, why.next)
  speaks (Overfull kept queued) d why = ap (λ (i : ℕ). (after_it st e i).hold) (sym (one_session why.session d why.held)) ∙ why.ended
  speaks (TooHigh h kept sent) d (inl why) = ap (λ (i : ℕ). (after_it st e i).hold) (sym (one_session why.session d why.held)) ∙ why.ended
  speaks (TooHigh h kept sent) d (inr why) = absurd (let bad : Logged d why.user ≡ Bound c s = sym why.logged ∙ bound in cc)
  speaks (Flood n) d why = cut_holds e st s w c m held (flood_cuts e st w why.1)
  speaks Closed d why = absurd why
  speaks Lost d why = absurd why

-- where its line is left
left_holds : (e : Event) (st : State) (s w c : ℕ) → IsMatched st.world → (before_it st s).hold ≡ Held w c → IsLeft e w
    → ((after_it st e s).hold ≡ Ended Closed) ⊎ (((after_it st e s).hold ≡ Ended Lost) ⊎ ((after_it st e s).hold ≡ Away))
left_holds (event.OpenLine v) st s w c m held at = inr (cut_holds (event.OpenLine v) st s w c m held at)
left_holds (event.DropLine v t) st s w c m held at = inr (cut_holds (event.DropLine v t) st s w c m held at)
left_holds (event.CloseLine v t) st s w c m held at =
    inl (close_holds st v t s c m (held ∙ ap (λ (i : ℕ). Held i c) (sym at)))
left_holds (event.Login v user) st s w c m held at = absurd at
left_holds (event.Bind v id resource t dice) st s w c m held at = absurd at
left_holds (event.Enable v wants dice) st s w c m held at = absurd at
left_holds (event.Resume v id h t) st s w c m held at = absurd at
left_holds (event.Act v x t) st s w c m held at = absurd at
left_holds (event.Ack v h) st s w c m held at = absurd at
left_holds (event.Ask v) st s w c m held at = absurd at
left_holds (event.Pull v t) st s w c m held at = absurd at
left_holds (event.Sweep v t) st s w c m held at = absurd at

module _ (st : State) (e : Event) (m : IsMatched st.world) (s w c : ℕ) (held : (before_it st s).hold ≡ Held w c) where
  what_is_told : Course st e w → Told st e s w c
  what_is_told (turned.stays same) =
      on ((all_sound st.world (effects_now st e) m.sound).tied w c s (same ∙ m.back s w c held))
  what_is_told (turned.joins d wait none) = absurd (let bad : None ≡ Some d = sym (ap waits (m.back s w c held)) ∙ wait in cc)
  what_is_told (turned.leaves gone none) = let_go (left_holds e st s w c m held gone)
  what_is_told (turned.closes d cause conn now why) =
      let both : Some c ≡ Some d = sym (ap conn_at (m.back s w c held)) ∙ conn in
      let same : d ≡ c = cc in
      over cause (now ∙ ap (λ (i : ℕ). Over i cause) same) (speaks st e m s w c held cause d why)

  abbrev held_now : Hold
  held_now = (after_it st e s).hold

  not_let_go : (n : Hold) → held_now ≡ n → (n ≡ Ended Closed → ⊥) → (n ≡ Ended Lost → ⊥) → (n ≡ Away → ⊥)
      → (held_now ≡ Ended Closed) ⊎ ((held_now ≡ Ended Lost) ⊎ (held_now ≡ Away)) → ⊥
  not_let_go n is a b d (inl p) = a (sym is ∙ p)
  not_let_go n is a b d (inr (inl p)) = b (sym is ∙ p)
  not_let_go n is a b d (inr (inr p)) = d (sym is ∙ p)

  same_cause : (a b : Cause) → Ended a ≡ Ended b → a ≡ b
  same_cause a b is = cc

  tells : (cause : Cause) → Told st e s w c → held_now ≡ Ended cause → IsTold cause → stage_after st e w ≡ Over c cause
  tells cause (on same) is told = absurd (let bad : Held w c ≡ Ended cause = sym same ∙ is in cc)
  tells cause (let_go how) is told =
      absurd (not_let_go (Ended cause) is
      (λ p. subst IsTold (same_cause cause Closed p) told) (λ p. subst IsTold (same_cause cause Lost p) told) (λ p. cc) how)
  tells cause (over (Moved n) now so) is told = absurd (let bad : Held so.0 n ≡ Ended cause = sym so.1 ∙ is in cc)
  tells cause (over (Replaced n) now so) is told = absurd (let bad : Gone ≡ Ended cause = sym so.0 ∙ is in cc)
  tells cause (over (Overfull kept queued) now so) is told = now ∙ ap (Over c) (same_cause (Overfull kept queued) cause (sym so ∙ is))
  tells cause (over (TooHigh h kept sent) now so) is told = now ∙ ap (Over c) (same_cause (TooHigh h kept sent) cause (sym so ∙ is))
  tells cause (over (Flood n) now so) is told =
      absurd (not_let_go (Ended cause) is
      (λ p. subst IsTold (same_cause cause Closed p) told) (λ p. subst IsTold (same_cause cause Lost p) told) (λ p. cc) (inr so))
  tells cause (over Closed now so) is told = absurd so
  tells cause (over Lost now so) is told = absurd so

  tells_replaced : Told st e s w c → held_now ≡ Gone → stage_after st e w ≡ Over c (Replaced (st.world.made + 1))
  tells_replaced (on same) is = absurd (let bad : Held w c ≡ Gone = sym same ∙ is in cc)
  tells_replaced (let_go how) is = absurd (not_let_go Gone is (λ p. cc) (λ p. cc) (λ p. cc) how)
  tells_replaced (over (Moved n) now so) is = absurd (let bad : Held so.0 n ≡ Gone = sym so.1 ∙ is in cc)
  tells_replaced (over (Replaced n) now so) is = now ∙ ap (λ (i : ℕ). Over c (Replaced i)) so.1
  tells_replaced (over (Overfull kept queued) now so) is = absurd (let bad : Ended (Overfull kept queued) ≡ Gone = sym so ∙ is in cc)
  tells_replaced (over (TooHigh h kept sent) now so) is = absurd (let bad : Ended (TooHigh h kept sent) ≡ Gone = sym so ∙ is in cc)
  tells_replaced (over (Flood n) now so) is = absurd (not_let_go Gone is (λ p. cc) (λ p. cc) (λ p. cc) (inr so))
  tells_replaced (over Closed now so) is = absurd so
  tells_replaced (over Lost now so) is = absurd so

  tells_moved : (v d : ℕ) → Told st e s w c → held_now ≡ Held v d → (v ≡ w → ⊥) → stage_after st e w ≡ Over c (Moved d)
  tells_moved v d (on same) is ne = absurd (ne (let both : Held w c ≡ Held v d = sym same ∙ is in let back : w ≡ v = cc in sym back))
  tells_moved v d (let_go how) is ne = absurd (not_let_go (Held v d) is (λ p. cc) (λ p. cc) (λ p. cc) how)
  tells_moved v d (over (Moved n) now so) is ne =
      let both : Held so.0 n ≡ Held v d = sym so.1 ∙ is in
      let same : n ≡ d = cc in
      now ∙ ap (λ (i : ℕ). Over c (Moved i)) same
  tells_moved v d (over (Replaced n) now so) is ne = absurd (let bad : Gone ≡ Held v d = sym so.0 ∙ is in cc)
  tells_moved v d (over (Overfull kept queued) now so) is ne = absurd (let bad : Ended (Overfull kept queued) ≡ Held v d = sym so ∙ is in cc)
  tells_moved v d (over (TooHigh h kept sent) now so) is ne = absurd (let bad : Ended (TooHigh h kept sent) ≡ Held v d = sym so ∙ is in cc)
  tells_moved v d (over (Flood n) now so) is ne = absurd (not_let_go (Held v d) is (λ p. cc) (λ p. cc) (λ p. cc) (inr so))
  tells_moved v d (over Closed now so) is ne = absurd so
  tells_moved v d (over Lost now so) is ne = absurd so

-- the ninth answer
floods_are : (st : State) (e : Event) (w : ℕ) → IsFlooded st e w → ((step st e).reply ≡ reply.Over (Flood most_answers))
    × ((c : ℕ) × (conn_at (stage_before st w) ≡ Some c) × (stage_after st e w ≡ Over c (Flood most_answers)))
floods_are st e w f =
    let p : Floods st e w = flooded_is st e w f in (
      ap (λ (v : Verdict). v.reply) p.2,
      (
        p.0,
        p.1,
        closed_line st e w p.0 (Flood most_answers) (left (keep (turn e st)) (stage_before st w)) (ap (λ (v : Verdict). v.effects) p.2),
      ),
    )

pub closings_are : (o : State) (h : List Turn) → IsOpening o → Closings o h
closings_are o h starts = record {
  told_by = λ e w c cause is. told_by st e w c cause ((turns e).course w) is;
  stays_over = λ e w c cause is. stays_over st e w c cause ((turns e).course w) is;
  answered = λ e cause is. (turns e).said cause is;
  never = λ w c cause is. told w c cause is;
  never_answered = λ e cause is.
      let p : (c : ℕ) × (stage_after st e (line_of e) ≡ Over c cause) = (turns e).said cause is in
      step_told st e m undue told (line_of e) p.0 cause p.1;
  tells = λ e s w c cause held is tells_it. tells st e m s w c held cause (what_is_told st e m s w c held ((turns e).course w)) is tells_it;
  tells_replaced = λ e s w c held is. tells_replaced st e m s w c held (what_is_told st e m s w c held ((turns e).course w)) is;
  tells_moved = λ e s w c v d held is ne. tells_moved st e m s w c held v d (what_is_told st e m s w c held ((turns e).course w)) is ne;
  floods = λ e w f. floods_are st e w f;
} where
  st : State
  st = after o h

  m : IsMatched st.world
  m = always_matched o h starts

  undue : AllUndue st.world
  undue = always_undue o h starts

  turns : (e : Event) → Turned st e
  turns e = turn_is st e m undue

  told : AllTold st.world
  told = always_told o h starts
