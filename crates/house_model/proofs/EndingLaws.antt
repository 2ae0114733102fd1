-- After every history: what ends a session, what one keeps that lost its connection, and what keeps it held.
use Rattle.std.proofs.Common.{◌≡◌, ◌⊎◌, inl, inr, ℕ, ◌+◌, ◌-◌, ◌==◌, ◌&&◌, List, [], ◌∷◌, ◌++◌, length, Option, Some, None, Bool, true, false, not}
use Rattle.std.proofs.Common.{refl, sym, ap, ◌∙◌, subst, true≢false, if◌then◌else◌}
use Rattle.std.specs.Prelude.{is_some}
use Rattle.sm_counters.specs.Numbers.{count_of}
use Rattle.sm_resume.specs.declared.decision.Cause.{Cause}
use Rattle.sm_resume.specs.declared.decision.Cause.TheVariants.{Closed, Flood, Lost, TooHigh}
use Rattle.sm_resume.specs.declared.id.ResumeId.{ResumeId}
use Rattle.session_table.specs.declared.line.Line as stage
use Rattle.session_table.specs.declared.line.Line.TheVariants.{Bound}
use Rattle.house_model.specs.declared.event.Event.{Event}
use Rattle.house_model.specs.declared.event.Event.TheVariants as event
use Rattle.house_model.specs.Sessions.{Hold, Held, Away, Ended, Gone, Session, Op, End, step_if, session_step}
use Rattle.house_model.specs.Traffic.{Traffic, whole}
use Rattle.house_model.specs.States.{World, State, keep}
use Rattle.house_model.specs.Effects.{Effect, Open, At, On, Leave, Close, apply, apply_all}
use Rattle.house_model.specs.Gate as gate
use Rattle.house_model.specs.Gate.{Verdict, most_answers, patience, left}
use Rattle.house_model.specs.Steps.{leaves, has_id, turn}
use Rattle.house_model.specs.Histories.{Turn, made, step, next, after, Legal, IsOpening}
use Rattle.house_model.specs.Lines.{told, ids, was_given}
use Rattle.house_model.specs.Stays as stay
use Rattle.house_model.specs.Stays.{Stay, Item, Logs, closed, stops, takes, log_step, logs_through, turn_logs, logs_from, logs_of, no_logs}
use Rattle.house_model.specs.Resuming.{is_live, IsSwept, IsReplaced}
use Rattle.house_model.specs.Endings.{IsEndedBy, IsMiscounted, Endings}
use Rattle.house_model.specs.Losses.{IsFlooded, IsCut, IsTakenUp, Waits, StaysAway, can_return, before_it, after_it, away_until}
use Rattle.house_model.specs.Closings.{stage_before}
use Rattle.house_model.proofs.FitLemmas.{IsMatched}
use Rattle.house_model.proofs.EventFits.{always_matched}
use Rattle.house_model.proofs.Resumes.{and_left}
use Rattle.house_model.proofs.Deadlines.{always_undue}
use Rattle.house_model.proofs.Given.{Gave}
use Rattle.house_model.proofs.GivenIds.{given_are}
use Rattle.house_model.proofs.MildEffects.{dead}
use Rattle.house_model.proofs.TurnCases as turned
use Rattle.house_model.proofs.TurnCases.{Fate, effects_now}
use Rattle.house_model.proofs.LossCases.{IsLast, left_session, left_is, left_bound, let_go_is}
use Rattle.house_model.proofs.FloodCases.{Floods, flooded_is}
use Rattle.house_model.proofs.GateTurns.{end_hold}
use Rattle.house_model.proofs.ResumeTurns.{miscounted}
use Rattle.house_model.proofs.DepartureTurns.{turn_is}

-- What each session's fate says.

module _ (st : State) (e : Event) (s : ℕ) where
  abbrev old : Session Traffic
  old = before_it st s

  abbrev new : Session Traffic
  new = after_it st e s

  not_live : (m : Hold) → new.hold ≡ m → is_live m ≡ false → is_live new.hold ≡ true → ⊥
  not_live m is none live = true≢false (sym live ∙ (ap is_live is ∙ none))

  ends_by : (cause : Cause) → Fate st e s → is_live old.hold ≡ true → new.hold ≡ Ended cause → IsEndedBy st e s cause
  ends_by cause (turned.goes steady) live is = absurd (dead old.hold cause (sym steady.hold ∙ is) live)
  ends_by cause (turned.begins away none on) live is = absurd (not_live (Ended cause) is refl on)
  ends_by cause (turned.ends other on over by) live is =
      subst (IsEndedBy st e s) (let same : Ended other ≡ Ended cause = sym over ∙ is in cc) by
  ends_by cause (turned.waits_now w c held cut away) live is = absurd (let bad : Away ≡ Ended cause = sym away ∙ is in cc)
  ends_by cause (turned.taken on up v d held) live is = absurd (let bad : Held v d ≡ Ended cause = sym held ∙ is in cc)
  ends_by cause (turned.parts gone why) live is = absurd (let bad : Gone ≡ Ended cause = sym gone ∙ is in cc)

  departs_by : Fate st e s → is_live old.hold ≡ true → new.hold ≡ Gone → (IsSwept st e s × (old.hold ≡ Away)) ⊎ IsReplaced st e s
  departs_by (turned.goes steady) live is =
      absurd (let bad : is_live Gone ≡ true = ap is_live (sym (sym steady.hold ∙ is)) ∙ live in true≢false (sym bad))
  departs_by (turned.begins away none on) live is = absurd (not_live Gone is refl on)
  departs_by (turned.ends other on over by) live is = absurd (let bad : Ended other ≡ Gone = sym over ∙ is in cc)
  departs_by (turned.waits_now w c held cut away) live is = absurd (let bad : Away ≡ Gone = sym away ∙ is in cc)
  departs_by (turned.taken on up v d held) live is = absurd (let bad : Held v d ≡ Gone = sym held ∙ is in cc)
  departs_by (turned.parts gone (inl over)) live is = absurd (true≢false (sym live ∙ over))
  departs_by (turned.parts gone (inr why)) live is = why

  keeps_cause_by : (cause : Cause) → Fate st e s → old.hold ≡ Ended cause → (new.hold ≡ Ended cause) ⊎ (new.hold ≡ Gone)
  keeps_cause_by cause (turned.goes steady) is = inl (steady.hold ∙ is)
  keeps_cause_by cause (turned.begins away none on) is = absurd (let bad : Away ≡ Ended cause = sym away ∙ is in cc)
  keeps_cause_by cause (turned.ends other on over by) is = absurd (dead old.hold cause is on)
  keeps_cause_by cause (turned.waits_now w c held cut away) is = absurd (let bad : Held w c ≡ Ended cause = sym held ∙ is in cc)
  keeps_cause_by cause (turned.taken on up v d held) is = absurd (dead old.hold cause is on)
  keeps_cause_by cause (turned.parts gone why) is = inr gone

  stays_gone_by : Fate st e s → old.hold ≡ Gone → new.hold ≡ Gone
  stays_gone_by (turned.goes steady) is = steady.hold ∙ is
  stays_gone_by (turned.begins away none on) is = absurd (let bad : Away ≡ Gone = sym away ∙ is in cc)
  stays_gone_by (turned.ends other on over by) is = absurd (true≢false (sym on ∙ ap is_live is))
  stays_gone_by (turned.waits_now w c held cut away) is = absurd (let bad : Held w c ≡ Gone = sym held ∙ is in cc)
  stays_gone_by (turned.taken on up v d held) is = absurd (true≢false (sym on ∙ ap is_live is))
  stays_gone_by (turned.parts gone why) is = gone

  waits_on_by : Fate st e s → old.hold ≡ Away → old.counts ≡ true
      → StaysAway old new ⊎ ((is_live new.hold ≡ false) ⊎ IsTakenUp st e s)
  waits_on_by (turned.goes steady) is counts = inl (steady.away is counts)
  waits_on_by (turned.begins away none on) is counts = absurd (true≢false (sym counts ∙ none))
  waits_on_by (turned.ends other on over by) is counts = inr (inl (ap is_live over))
  waits_on_by (turned.waits_now w c held cut away) is counts = absurd (let bad : Held w c ≡ Away = sym held ∙ is in cc)
  waits_on_by (turned.taken on up v d held) is counts = inr (inr up)
  waits_on_by (turned.parts gone why) is counts = inr (inl (ap is_live gone))

  keeps_hold_by : (w c : ℕ) → Fate st e s → old.hold ≡ Held w c
      → (new.hold ≡ Held w c) ⊎ ((is_live new.hold ≡ false) ⊎ (IsCut st e w ⊎ IsTakenUp st e s))
  keeps_hold_by w c (turned.goes steady) is = inl (steady.hold ∙ is)
  keeps_hold_by w c (turned.begins away none on) is = absurd (let bad : Away ≡ Held w c = sym away ∙ is in cc)
  keeps_hold_by w c (turned.ends other on over by) is = inr (inl (ap is_live over))
  keeps_hold_by w c (turned.waits_now v d held cut away) is =
      inr (inr (inl (subst (IsCut st e) (let both : Held v d ≡ Held w c = sym held ∙ is in cc) cut)))
  keeps_hold_by w c (turned.taken on up v d held) is = inr (inr (inr up))
  keeps_hold_by w c (turned.parts gone why) is = inr (inl (ap is_live gone))

-- The effects where the connection of a session is lost.

pub record CutEffects (st : State) (e : Event) (w s : ℕ) : Type 0 where
  pub last : Effect
  pub is_last : IsLast w last
  pub are : effects_now st e ≡ On s (left_session st e s) ∷ last ∷ []

module _ (st : State) (e : Event) (m : IsMatched st.world) (s w c : ℕ) (held : (before_it st s).hold ≡ Held w c) where
  with_last : (v : ℕ) (last : Effect) → v ≡ w → IsLast w last → effects_now st e ≡ left (keep (turn e st)) (stage_before st v) ++ last ∷ []
      → CutEffects st e w s
  with_last v last at is_last is = record {
    last = last;
    is_last = is_last;
    are = is ∙ ap (λ (es : List Effect). es ++ last ∷ [])
        (left_bound st e w c s (stage_before st v) (ap (stage_before st) at ∙ m.back s w c held) held);
  }

  by_flood : IsFlooded st e w → CutEffects st e w s
  by_flood f =
      let p : Floods st e w = flooded_is st e w f in
      with_last w (At w (Close p.0 (Flood most_answers))) refl refl (ap (λ (v : Verdict). v.effects) p.2)

left_last : (g : stage.Line) (w c s : ℕ) (es : List Effect) → g ≡ Bound c s → (leaves g w es).effects ≡ es ++ At w Leave ∷ []
left_last g w c s es is = ap (λ (x : stage.Line). (leaves x w es).effects) is

pub cut_effects : (e : Event) (st : State) (s w c : ℕ) → IsMatched st.world → (before_it st s).hold ≡ Held w c → IsCut st e w → CutEffects st e w s
cut_effects (event.DropLine v t) st s w c m held cut =
    with_last st (event.DropLine v t) m s w c held v (At v Leave) cut cut
    (left_last (stage_before st v) v c s _ (ap (stage_before st) cut ∙ m.back s w c held))
cut_effects (event.OpenLine v) st s w c m held cut = with_last st (event.OpenLine v) m s w c held v (Open v) cut cut refl
cut_effects (event.Login v user) st s w c m held cut = by_flood st (event.Login v user) m s w c held cut
cut_effects (event.Bind v id resource t dice) st s w c m held cut = by_flood st (event.Bind v id resource t dice) m s w c held cut
cut_effects (event.Enable v wants dice) st s w c m held cut = by_flood st (event.Enable v wants dice) m s w c held cut
cut_effects (event.Resume v id h t) st s w c m held cut = by_flood st (event.Resume v id h t) m s w c held cut
cut_effects (event.Act v x t) st s w c m held cut = by_flood st (event.Act v x t) m s w c held cut
cut_effects (event.Ack v h) st s w c m held cut = by_flood st (event.Ack v h) m s w c held cut
cut_effects (event.Ask v) st s w c m held cut = by_flood st (event.Ask v) m s w c held cut
cut_effects (event.Pull v t) st s w c m held cut = by_flood st (event.Pull v t) m s w c held cut
cut_effects (event.CloseLine v t) st s w c m held cut = by_flood st (event.CloseLine v t) m s w c held cut
cut_effects (event.Sweep v t) st s w c m held cut = by_flood st (event.Sweep v t) m s w c held cut

-- lost, or away
pub cut_holds : (e : Event) (st : State) (s w c : ℕ) → IsMatched st.world → (before_it st s).hold ≡ Held w c → IsCut st e w
    → ((after_it st e s).hold ≡ Ended Lost) ⊎ ((after_it st e s).hold ≡ Away)
cut_holds e st s w c m held cut =
    let p : CutEffects st e w s = cut_effects e st s w c m held cut in
    let now : (after_it st e s).hold ≡ (session_step whole (before_it st s) (left_session st e s)).hold =
    ap (λ (y : Session Traffic). y.hold) (let_go_is st e w c s (left_session st e s) p.last p.is_last p.are held) in
    elim (left_is st e s w c held) as (λ _. ((after_it st e s).hold ≡ Ended Lost) ⊎ ((after_it st e s).hold ≡ Away)) [
      | inl q ↦ inl (now ∙ q.1)
      | inr q ↦ inr (now ∙ ap (λ (y : Session Traffic). y.hold) q.1)
    ]

-- its client closes its stream
pub close_holds : (st : State) (w t s c : ℕ) → IsMatched st.world → (before_it st s).hold ≡ Held w c
    → (after_it st (event.CloseLine w t) s).hold ≡ Ended Closed
close_holds st w t s c m held =
    let e : Event = event.CloseLine w t in
    let x : Session Traffic = before_it st s in
    let are : effects_now st e ≡ On s (End Closed) ∷ At w Leave ∷ [] = ap (λ (g : stage.Line). (leaves g w (gate.closed g)).effects) (m.back s w c held) in
    ap (λ (y : Session Traffic). y.hold) (let_go_is st e w c s (End Closed) (At w Leave) refl are held)
    ∙ (ap (λ (n : Hold). (step_if whole x.counts n x.traffic x.rest (End Closed)).hold) held ∙ end_hold x.counts x.traffic x.rest w c Closed)

drop_holds : (e : Event) (st : State) (s w c : ℕ) → IsMatched st.world → (before_it st s).hold ≡ Held w c → can_return (before_it st s) ≡ false
    → IsCut st e w → (after_it st e s).hold ≡ Ended Lost
drop_holds e st s w c m held cannot cut =
    let p : CutEffects st e w s = cut_effects e st s w c m held cut in
    elim (left_is st e s w c held) as (λ _. (after_it st e s).hold ≡ Ended Lost) [
      | inl q ↦ ap (λ (y : Session Traffic). y.hold) (let_go_is st e w c s (left_session st e s) p.last p.is_last p.are held) ∙ q.1
      | inr q ↦ absurd (true≢false (sym q.0 ∙ cannot))
    ]

miscount_holds : (st : State) (e : Event) (s h kept sent : ℕ) → IsMatched st.world → IsMiscounted st e s h kept sent
    → (after_it st e s).hold ≡ Ended (TooHigh h kept sent)
miscount_holds st e s h kept sent m is =
    ap (λ (x : Event). (after_it st x s).hold) is.says
    ∙ (miscounted st is.line h is.conn s m is.held is.counts is.none
    ∙ (ap (λ (n : ℕ). Ended (TooHigh h n (count_of ((before_it st s).traffic.sent - (before_it st s).traffic.base_out)))) (sym is.done)
    ∙ ap (λ (n : ℕ). Ended (TooHigh h kept n)) (sym is.given)))

-- Its rooms and its stays.

last_rooms : (w : ℕ) (e : Effect) (world : World Traffic) → IsLast w e → (apply whole world e).rooms ≡ world.rooms
last_rooms w (Open v) world last = refl
last_rooms w (At v op) world last = refl
last_rooms w e world last = absurd last

last_logs : (w : ℕ) (e : Effect) (world : World Traffic) (logs : Logs) → IsLast w e → log_step world e logs ≡ logs
last_logs w (Open v) world logs last = refl
last_logs w (At v op) world logs last = refl
last_logs w e world logs last = absurd last

never : (b : Bool) → (b && false) ≡ false
never true = refl
never false = refl

none_closed : (s : ℕ) (order : ℕ → List Item) (x : Stay) → closed (λ q r. (q == s) && false) order x ≡ x
none_closed s order stay.Unmade = refl
none_closed s order (stay.Open q r a) =
    ap (λ (b : Bool). if b then stay.Ended q r a (length (order r)) else stay.Open q r a) (never (q == s))
none_closed s order (stay.Ended q r a e) = refl

logs_push : (st : State) (h : List Turn) (x : Turn) (logs : Logs)
    → logs_from st (h ++ x ∷ []) logs ≡ turn_logs (after st h) x.event x.outcome (logs_from st h logs)
logs_push st [] x logs = refl
logs_push st (y ∷ more) x logs = logs_push (next st y) more x (turn_logs st y.event y.outcome logs)

waits_is : (o : State) (h : List Turn) (e : Event) (s w c : ℕ) → IsMatched (after o h).world → (before_it (after o h) s).hold ≡ Held w c
    → can_return (before_it (after o h) s) ≡ true → IsCut (after o h) e w → Waits o h e s
waits_is o h e s w c m held can cut = record {
  session = now;
  rooms = ap (λ (es : List Effect). (apply_all whole st.world es).rooms) p.are ∙ last_rooms w p.last lost p.is_last;
  stays = λ i. ap (λ (l : Logs). l.stays i) (logs_push o h (made e (step st e).reply (step st e).text) no_logs)
      ∙ (ap (λ (es : List Effect). (logs_through st.world es (logs_of o h)).stays i) p.are
      ∙ (ap (λ (l : Logs). l.stays i) (last_logs w p.last lost (log_step st.world (On s op) (logs_of o h)) p.is_last)
      ∙ (ap (λ (b : Bool). closed (λ q r. (q == s) && b) (logs_of o h).order ((logs_of o h).stays i)) goes_on
      ∙ none_closed s (logs_of o h).order ((logs_of o h).stays i))));
} where
  st : State
  st = after o h

  x : Session Traffic
  x = before_it st s

  op : Op
  op = left_session st e s

  p : CutEffects st e w s
  p = cut_effects e st s w c m held cut

  lost : World Traffic
  lost = apply whole st.world (On s op)

  away : session_step whole x op ≡ away_until ((turn e st).head.moment + patience) x
  away = elim (left_is st e s w c held) as (λ _. session_step whole x op ≡ away_until ((turn e st).head.moment + patience) x) [
    | inl q ↦ absurd (true≢false (sym can ∙ q.0))
    | inr q ↦ q.1
  ]

  now : after_it st e s ≡ away_until ((turn e st).head.moment + patience) x
  now = let_go_is st e w c s op p.last p.is_last p.are held ∙ away

  goes_on : stops x (session_step whole x op) ≡ false
  goes_on =
      ap (stops x) away
      ∙ (ap (λ (b : Bool). takes b x.hold && not (takes b Away)) (and_left x.counts _ can)
      ∙ ap (λ (n : Hold). takes true n && not (takes true Away)) held)

-- a session of this id counts
returns_by : (b : Bool) (has : Option ResumeId) (id : ResumeId) → (b ≡ false → has ≡ None) → has_id has id ≡ true → (b && is_some has) ≡ true
returns_by true (Some other) id none is = refl
returns_by true None id none is = absurd (true≢false (sym is))
returns_by false has id none is = absurd (true≢false (sym is ∙ ap (λ (o : Option ResumeId). has_id o id) (none refl)))

given_returns : (o : State) (h : List Turn) (id : ResumeId) → IsOpening o → Legal o h → was_given o h id ≡ true
    → can_return (before_it (after o h) id.session) ≡ true
given_returns o h id starts legal is =
    let g : Gave (after o h).world (told ids o h) = given_are o h starts legal in
    let s : Session Traffic = before_it (after o h) id.session in
    returns_by s.counts s.rest.resume_id id (g.uncounted id.session) (sym (g.same id) ∙ is)

pub endings_are : (o : State) (h : List Turn) → IsOpening o → Legal o h → Endings o h
endings_are o h starts legal = record {
  ends = λ e s cause live is. ends_by st e s cause (fate e s) live is;
  closes = λ s w c t held. close_holds st w t s c m held;
  drops = λ e s w c held cannot cut. drop_holds e st s w c m held cannot cut;
  miscounts = λ e s count kept sent is. miscount_holds st e s count kept sent m is;
  departs = λ e s live is. departs_by st e s (fate e s) live is;
  keeps_cause = λ e s cause is. keeps_cause_by st e s cause (fate e s) is;
  stays_gone = λ e s is. stays_gone_by st e s (fate e s) is;
  given = λ id is. given_returns o h id starts legal is;
  waits = λ e s w c held can cut. waits_is o h e s w c m held can cut;
  waits_on = λ e s is counts. waits_on_by st e s (fate e s) is counts;
  keeps_hold = λ e s w c held. keeps_hold_by st e s w c (fate e s) held;
} where
  st : State
  st = after o h

  m : IsMatched st.world
  m = always_matched o h starts

  fate : (e : Event) (s : ℕ) → Fate st e s
  fate e s = (turn_is st e m (always_undue o h starts)).fate s
