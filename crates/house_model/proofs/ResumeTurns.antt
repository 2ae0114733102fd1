-- What an Ack and a Resume make of each session and of each line.
use Rattle.std.proofs.Common.{◌≡◌, ◌⊎◌, inl, inr, ℕ, ◌==◌, ◌&&◌, [], ◌∷◌, Option, Some, None, Bool, true, false}
use Rattle.std.proofs.Common.{refl, sym, ap, ◌∙◌, subst}
use Rattle.sm_resume.specs.declared.decision.Cause.{Cause}
use Rattle.sm_resume.specs.declared.decision.Cause.TheVariants.{Moved}
use Rattle.sm_resume.specs.declared.id.ResumeId.{ResumeId}
use Rattle.session_table.specs.declared.line.Line as stage
use Rattle.session_table.specs.declared.line.Line.TheVariants.{Logged, Bound, Over}
use Rattle.house_model.specs.declared.answer.Answer.{Answer}
use Rattle.house_model.specs.declared.answer.Answer.TheVariants as answer
use Rattle.house_model.specs.declared.event.Event.{Event}
use Rattle.house_model.specs.declared.event.Event.TheVariants as event
use Rattle.house_model.specs.declared.reply.Reply.TheVariants as reply
use Rattle.house_model.specs.Numbered.{put}
use Rattle.house_model.specs.Sessions.{Hold, Held, Away, Ended, Gone, Rest, Session, Ack, Resume, session, acked, step_if, session_step}
use Rattle.house_model.specs.Traffic as traffic
use Rattle.house_model.specs.Traffic.{Traffic, KeptTraffic, whole, brief, handled, keep_traffic, kept_inward}
use Rattle.house_model.specs.States.{Line, World, State, Kept, keep, keep_session, keep_by}
use Rattle.house_model.specs.Effects.{At, On, Say, Close, over_line, bound_line, line_step, moved_if, settled, apply, apply_all}
use Rattle.house_model.specs.Gate.{Verdict, does, to_act, to_manage, gate_at}
use Rattle.house_model.specs.Steps.{takes, resumes, acks, ack_reply, body, verdict, turn}
use Rattle.house_model.specs.Histories.{Made, step}
use Rattle.house_model.specs.Resuming.{is_live}
use Rattle.house_model.specs.Endings.{IsEndedBy}
use Rattle.house_model.specs.Losses.{before_it, after_it}
use Rattle.house_model.specs.Closings.{conn_at, stage_before, stage_after}
use Rattle.house_model.proofs.PutLemmas.{put_is, put_here, put_else}
use Rattle.house_model.proofs.SoundLemmas.{same_or_not}
use Rattle.house_model.proofs.FitLemmas.{IsMatched}
use Rattle.house_model.proofs.EventFits.{next_back}
use Rattle.house_model.proofs.TrafficLemmas as kept
use Rattle.house_model.proofs.TrafficLemmas.{keep_option}
use Rattle.house_model.proofs.Apart.{waits}
use Rattle.house_model.proofs.Resumes.{finds, decision, decided, not_found, finds_live}
use Rattle.house_model.proofs.Joins.{GoesOn, taken_session}
use Rattle.house_model.proofs.MildEffects.{Steady, steady_same}
use Rattle.house_model.proofs.MildLines.{settled_same, settled_over}
use Rattle.house_model.proofs.TurnCases as turned
use Rattle.house_model.proofs.TurnCases.{Fate, Course, Turned, effects_now, not_said}
use Rattle.house_model.proofs.LossCases.{alone_turn}
use Rattle.house_model.proofs.FloodCases.{asks_none, resume_can, closed_line, closed_said}
use Rattle.house_model.proofs.GateTurns.{GateGoes, gate_turn, calm_goes}

-- Ack

-- the session of a line that acknowledges, where it counts
acked_if : (b : Bool) (m : Hold) (t : Traffic) (r : Rest) (h w c : ℕ) → b ≡ true → m ≡ Held w c
    → step_if whole b m t r (Ack h) ≡ acked whole (whole.ack t h) (Held w c) t r h
acked_if b m t r h w c counts held =
    ap (λ (x : Bool). step_if whole x m t r (Ack h)) counts ∙ ap (λ (n : Hold). step_if whole true n t r (Ack h)) held

module _ (st : State) (w h c s : ℕ) (m : IsMatched st.world) (at : stage_before st w ≡ Bound c s) (counts : (before_it st s).counts ≡ true) where
  abbrev ack : Event
  ack = event.Ack w h

  abbrev x : Session Traffic
  x = before_it st s

  held : x.hold ≡ Held w c
  held = m.sound.tied w c s at

  abbrev acks_so : Verdict
  acks_so = does (ack_reply (brief.ack (keep_traffic x.traffic) h) (brief.too_high (keep_traffic x.traffic) h)) (On s (Ack h) ∷ [])

  module _ (is : verdict (keep (turn ack st)) ack ≡ acks_so) where
    after_is : after_it st ack s ≡ session_step whole x (Ack h)
    after_is = ap (λ (v : Verdict). (apply_all whole st.world v.effects).sessions s) is ∙ put_here s (session_step whole x (Ack h)) st.world.sessions

    other_is : (i : ℕ) → (i ≡ s → ⊥) → after_it st ack i ≡ before_it st i
    other_is i ne = ap (λ (v : Verdict). (apply_all whole st.world v.effects).sessions i) is ∙ put_else s (session_step whole x (Ack h)) st.world.sessions i ne

    line_is : (i : ℕ) → stage_after st ack i ≡ (settled s x.hold (session_step whole x (Ack h)).hold st.world.lines i).stage
    line_is i = ap (λ (v : Verdict). ((apply_all whole st.world v.effects).lines i).stage) is

    reply_is : (step st ack).reply ≡ ack_reply (keep_option (whole.ack x.traffic h)) (whole.too_high x.traffic h)
    reply_is =
        ap (λ (v : Verdict). v.reply) is
        ∙ (ap (λ (o : Option KeptTraffic). ack_reply o (brief.too_high (keep_traffic x.traffic) h)) (sym (kept.ack_kept x.traffic h (m.sound.ordered s)))
        ∙ ap (ack_reply (keep_option (whole.ack x.traffic h))) (sym (kept.too_high_kept x.traffic h (m.sound.ordered s))))

    fates : Fate st ack s → (i : ℕ) → Fate st ack i
    fates mine i = elim (same_or_not i s) as (λ _. Fate st ack i) [
      | inl p ↦ subst (Fate st ack) (sym p) mine
      | inr ne ↦ turned.goes (subst (Steady (before_it st i)) (sym (other_is i ne)) (steady_same (before_it st i)))
    ]

    acked_over : handled x.traffic h ≡ None → (session_step whole x (Ack h)).hold ≡ Ended (whole.too_high x.traffic h)
    acked_over none =
        ap (λ (y : Session Traffic). y.hold) (acked_if x.counts x.hold x.traffic x.rest h w c counts held)
        ∙ ap (λ (o : Option ℕ). (acked whole (traffic.ack x.traffic o) (Held w c) x.traffic x.rest h).hold) none

    acked_ended : handled x.traffic h ≡ None → (after_it st ack s).hold ≡ Ended (whole.too_high x.traffic h)
    acked_ended none = ap (λ (y : Session Traffic). y.hold) after_is ∙ acked_over none

    acked_turn : (n : Option ℕ) → handled x.traffic h ≡ n → Turned st ack
    acked_turn (Some n) has =
        let same : (session_step whole x (Ack h)).hold ≡ x.hold =
        ap (λ (y : Session Traffic). y.hold) (acked_if x.counts x.hold x.traffic x.rest h w c counts held)
        ∙ (ap (λ (o : Option ℕ). (acked whole (traffic.ack x.traffic o) (Held w c) x.traffic x.rest h).hold) has ∙ sym held) in
        record {
          fate = fates (turned.goes (record {
            hold = ap (λ (y : Session Traffic). y.hold) after_is ∙ same;
            away = λ away on. absurd (let bad : Held w c ≡ Away = sym held ∙ away in cc);
          }));
          course = λ i. turned.stays (line_is i ∙ (ap (λ (y : Hold). (settled s x.hold y st.world.lines i).stage) same
              ∙ ap (λ (l : Line). l.stage) (settled_same s x.hold st.world.lines i)));
          said = not_said st ack reply.Done
              (reply_is ∙ ap (λ (o : Option ℕ). ack_reply (keep_option (traffic.ack x.traffic o)) (whole.too_high x.traffic h)) has)
              (λ cause bad. cc);
        }
    acked_turn None none = record {
      fate = fates (turned.ends cause (ap is_live held) (acked_ended none) ended_by);
      course = λ i. by_line i (settled_over s x.hold cause st.world.lines i);
      said = closed_said st ack c cause
          (reply_is ∙ ap (λ (o : Option ℕ). ack_reply (keep_option (traffic.ack x.traffic o)) cause) none)
          (line_is w ∙ (ap (λ (y : Hold). (settled s x.hold y st.world.lines w).stage) (acked_over none)
          ∙ (ap (λ (y : Hold). (settled s y (Ended cause) st.world.lines w).stage) held ∙ ap (λ (l : Line). l.stage) (put_here w _ st.world.lines))));
    } where
      cause : Cause
      cause = whole.too_high x.traffic h

      ended_by : IsEndedBy st ack s cause
      ended_by = record { line = w; conn = c; held = held; counts = counts; says = refl; none = none; done = refl; given = refl }

      by_line : (i : ℕ) → ((settled s x.hold (Ended cause) st.world.lines i).stage ≡ stage_before st i)
          ⊎ ((d : ℕ) × (x.hold ≡ Held i d) × ((settled s x.hold (Ended cause) st.world.lines i).stage ≡ Over d cause)) → Course st ack i
      by_line i (inl same) = turned.stays (line_is i ∙ (ap (λ (y : Hold). (settled s x.hold y st.world.lines i).stage) (acked_over none) ∙ same))
      by_line i (inr p) =
          turned.closes p.0 cause (ap conn_at (m.back s i p.0 p.1))
          (line_is i ∙ (ap (λ (y : Hold). (settled s x.hold y st.world.lines i).stage) (acked_over none) ∙ p.2))
          (inl (record { session = s; held = p.1; ended = acked_ended none }))

-- what is kept of a session that is held
kept_held : (x : Session Traffic) (w c : ℕ) → x.hold ≡ Held w c → keep_session x ≡ session x.counts (Held w c) (keep_traffic x.traffic) x.rest
kept_held x w c held = ap (λ (m : Hold). keep_by x.counts m x.traffic x.rest) held

-- and what an Ack says of it
pub miscounted : (st : State) (w h c s : ℕ) → IsMatched st.world → (before_it st s).hold ≡ Held w c → (before_it st s).counts ≡ true
    → handled (before_it st s).traffic h ≡ None → (after_it st (event.Ack w h) s).hold ≡ Ended (whole.too_high (before_it st s).traffic h)
miscounted st w h c s m held counts none =
    let e : Event = event.Ack w h in
    let k : Kept = keep (turn e st) in
    let x : Session Traffic = before_it st s in
    let bound : stage_before st w ≡ Bound c s = m.back s w c held in
    let is : verdict k e ≡ acks true s h (keep_traffic x.traffic) =
    ap (λ (g : stage.Line). body k e (gate_at to_act k w (st.world.lines w) g)) bound
    ∙ (ap (λ (y : Session KeptTraffic). acks y.counts s h y.traffic) (kept_held x w c held) ∙ ap (λ (b : Bool). acks b s h (keep_traffic x.traffic)) counts) in
    acked_ended st w h c s m bound counts is none

acks_goes : (st : State) (w h c s : ℕ) (b : Bool) → IsMatched st.world → stage_before st w ≡ Bound c s → (before_it st s).counts ≡ b
    → GateGoes st (event.Ack w h) (acks b s h (keep_traffic (before_it st s).traffic))
acks_goes st w h c s false m at counts = calm_goes st (event.Ack w h) _ m (tt, λ cause bad. cc)
acks_goes st w h c s true m at counts = λ is. acked_turn st w h c s m at counts is (handled (before_it st s).traffic h) refl

pub ack_turn : (st : State) (w h : ℕ) → IsMatched st.world → Turned st (event.Ack w h)
ack_turn st w h m =
    let e : Event = event.Ack w h in
    gate_turn st e to_act m (λ f. f) (asks_none e to_act refl)
    (λ c at. calm_goes st e _ m (tt, λ cause bad. cc)) (λ c u at. calm_goes st e _ m (tt, λ cause bad. cc))
    (λ c s at.
    let x : Session Traffic = before_it st s in
    subst (λ (y : Session KeptTraffic). GateGoes st e (acks y.counts s h y.traffic)) (sym (kept_held x w c (m.sound.tied w c s at)))
    (acks_goes st w h c s x.counts m at refl)) refl

-- Resume

-- a line, as a session is given to another
taken_line : (s : ℕ) (m : Hold) (w c : ℕ) (ls : ℕ → Line) (i : ℕ) → (i ≡ w → ⊥)
    → ((settled s m (Held w c) ls i).stage ≡ (ls i).stage) ⊎ ((d : ℕ) × (m ≡ Held i d) × ((settled s m (Held w c) ls i).stage ≡ Over d (Moved c)))
taken_line s (Held u d) w c ls i ne = moved ((u == w) && (d == c)) where
  moved : (b : Bool) → ((moved_if b s u d w c ls i).stage ≡ (ls i).stage)
      ⊎ ((k : ℕ) × (Held u d ≡ Held i k) × ((moved_if b s u d w c ls i).stage ≡ Over k (Moved c)))
  moved true = inl refl
  moved false =
      let ks : ℕ → Line = put u (over_line d (Moved c)) ls in
      let far : put w (bound_line c s (ls w)) ks i ≡ ks i = put_else w (bound_line c s (ls w)) ks i ne in
      elim (put_is u (over_line d (Moved c)) ls i) [
        | inl p ↦ inr (d, ap (λ (k : ℕ). Held k d) (sym p.0), ap (λ (l : Line). l.stage) (far ∙ p.1))
        | inr p ↦ inl (ap (λ (l : Line). l.stage) (far ∙ p.1))
      ]
taken_line s Away w c ls i ne = inl (ap (λ (l : Line). l.stage) (put_else w (bound_line c s (ls w)) ls i ne))
taken_line s (Ended cause) w c ls i ne = inl (ap (λ (l : Line). l.stage) (put_else w (bound_line c s (ls w)) ls i ne))
taken_line s Gone w c ls i ne = inl (ap (λ (l : Line). l.stage) (put_else w (bound_line c s (ls w)) ls i ne))

module _ (st : State) (w c u h t : ℕ) (id : ResumeId) (m : IsMatched st.world) (at : stage_before st w ≡ Logged c u) where
  abbrev resume : Event
  resume = event.Resume w (Some id) h t

  abbrev old : Session Traffic
  old = before_it st id.session

  -- its count stands for no entry
  refused_turn : handled old.traffic h ≡ None
      → GateGoes st resume (does (reply.Over (whole.too_high old.traffic h)) (At w (Close c (whole.too_high old.traffic h)) ∷ []))
  refused_turn none is =
      let cause : Cause = whole.too_high old.traffic h in
      let over : stage_after st resume w ≡ Over c cause = closed_line st resume w c cause [] (ap (λ (v : Verdict). v.effects) is) in
      alone_turn st resume w (At w (Close c cause)) refl (ap (λ (v : Verdict). v.effects) is)
      (λ now. turned.closes c cause (ap conn_at at) over
      (inr (record { user = u; id = id; moment = t; logged = at; asks = refl; none = none; done = refl; given = refl })))
      (closed_said st resume c cause (ap (λ (v : Verdict). v.reply) is) over)

  -- it goes on
  abbrev said_so : Answer
  said_so = answer.Resumed (kept_inward (keep_traffic old.traffic)) id

  abbrev takes_so : Verdict
  takes_so = does reply.Resumed (On id.session (Resume w c h) ∷ At w (Say said_so) ∷ [])

  taken_turn : (n : ℕ) → finds st id u old ≡ true → handled old.traffic h ≡ Some n → GateGoes st resume takes_so
  taken_turn n found has is = record {
    fate = by_session;
    course = by_line;
    said = not_said st resume reply.Resumed resumed (λ cause bad. cc);
  } where
    s : ℕ
    s = id.session

    resumed : (step st resume).reply ≡ reply.Resumed
    resumed = ap (λ (v : Verdict). v.reply) is

    goes_on : GoesOn st w c u id h takes_so
    goes_on = record { n = n; found = found; has = has; is = refl }

    holds : (after_it st resume s).hold ≡ Held w c
    holds = ap (λ (v : Verdict). ((apply_all whole st.world v.effects).sessions s).hold) is
        ∙ ap (λ (y : Session Traffic). y.hold) (taken_session st w c u id h takes_so goes_on)

    by_session : (i : ℕ) → Fate st resume i
    by_session i = elim (same_or_not i s) as (λ _. Fate st resume i) [
      | inl p ↦ subst (Fate st resume) (sym p) (turned.taken (finds_live st id u old found) (refl, resumed) w c holds)
      | inr ne ↦ turned.goes (subst (Steady (before_it st i))
          (sym (ap (λ (v : Verdict). (apply_all whole st.world v.effects).sessions i) is
          ∙ put_else s (session_step whole old (Resume w c h)) st.world.sessions i ne)) (steady_same (before_it st i)))
    ]

    bound : stage_after st resume w ≡ Bound c s
    bound = next_back st resume (Made reply.Resumed []) m s w c holds

    on : World Traffic
    on = apply whole st.world (On s (Resume w c h))

    new : (session_step whole old (Resume w c h)).hold ≡ Held w c
    new = ap (λ (y : Session Traffic). y.hold) (sym (put_here s (session_step whole old (Resume w c h)) st.world.sessions))
        ∙ ap (λ (y : Session Traffic). y.hold) (taken_session st w c u id h takes_so goes_on)

    line_is : (i : ℕ) → (i ≡ w → ⊥) → stage_after st resume i ≡ (settled s old.hold (Held w c) st.world.lines i).stage
    line_is i ne =
        ap (λ (v : Verdict). ((apply_all whole st.world v.effects).lines i).stage) is
        ∙ (ap (λ (l : Line). l.stage) (put_else w (line_step (Say said_so) (on.lines w)) on.lines i ne)
        ∙ ap (λ (y : Hold). (settled s old.hold y st.world.lines i).stage) new)

    by_line : (i : ℕ) → Course st resume i
    by_line i = elim (same_or_not i w) as (λ _. Course st resume i) [
      | inl p ↦ subst (Course st resume) (sym p) (turned.joins c (ap waits at) (λ d cause bad. absurd (
          let both : Bound c s ≡ Over d cause = sym bound ∙ bad in
          cc)))
      | inr ne ↦ elim (taken_line s old.hold w c st.world.lines i ne) as (λ _. Course st resume i) [
        | inl same ↦ turned.stays (line_is i ne ∙ same)
        | inr p ↦ turned.closes p.0 (Moved c) (ap conn_at (m.back s i p.0 p.1)) (line_is i ne ∙ p.2)
            (record { session = s; held = p.1; taken = (refl, resumed); line = w; holds = holds })
      ]
    ]

  by_count : (n : Option ℕ) → finds st id u old ≡ true → handled old.traffic h ≡ n
      → GateGoes st resume (takes (keep_option (traffic.resume old.traffic n)) w c id.session h id (keep_traffic old.traffic))
  by_count (Some n) found has = taken_turn n found has
  by_count None found none =
      subst (λ (cause : Cause). GateGoes st resume (does (reply.Over cause) (At w (Close c cause) ∷ [])))
      (kept.too_high_kept old.traffic h (m.sound.ordered id.session)) (refused_turn none)

  by_finding : (b : Bool) → finds st id u old ≡ b → GateGoes st resume (decision st w c u id h b)
  by_finding true found = by_count (handled old.traffic h) found refl
  by_finding false found = calm_goes st resume (not_found w) m ((tt, tt), λ cause bad. cc)

  pub logged_turn : GateGoes st resume (resumes (keep (turn resume st)) w c u (Some id) h)
  logged_turn =
      subst (GateGoes st resume)
      (sym (decided (turn resume st) id u w c id.session h old.counts old.hold old.traffic old.rest (m.sound.ordered id.session)))
      (by_finding (finds st id u old) refl)

resumes_goes : (id : Option ResumeId) (st : State) (w c u h t : ℕ) → IsMatched st.world → stage_before st w ≡ Logged c u
    → GateGoes st (event.Resume w id h t) (resumes (keep (turn (event.Resume w id h t) st)) w c u id h)
resumes_goes None st w c u h t m at = calm_goes st (event.Resume w None h t) (not_found w) m ((tt, tt), λ cause bad. cc)
resumes_goes (Some id) st w c u h t m at = logged_turn st w c u h t id m at

pub resume_turn : (st : State) (w : ℕ) (id : Option ResumeId) (h t : ℕ) → IsMatched st.world → Turned st (event.Resume w id h t)
resume_turn st w id h t m =
    let e : Event = event.Resume w id h t in
    gate_turn st e to_manage m (λ f. f) (resume_can w id h t)
    (λ c at. calm_goes st e _ m (tt, λ cause bad. cc))
    (λ c u at. resumes_goes id st w c u h t m at)
    (λ c s at. calm_goes st e _ m ((tt, tt), λ cause bad. cc)) refl
