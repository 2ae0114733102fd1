-- What a Bind and a Sweep make of each session and of each line; and so what every event does.
use Rattle.std.proofs.Common.{◌≡◌, ◌⊎◌, inl, inr, ℕ, ◌+◌, List, [], ◌∷◌, ◌++◌, map, Option, Some, None, Bool, true, false}
use Rattle.std.proofs.Common.{refl, sym, ap, ◌∙◌, subst, true≢false, arith}
use Rattle.jid_core.specs.Addresses.{Address, same_address, address_text}
use Rattle.sm_resume.specs.declared.decision.Cause.{Cause}
use Rattle.sm_resume.specs.declared.decision.Cause.TheVariants.{Lost, Overfull, Replaced}
use Rattle.session_table.specs.declared.line.Line.TheVariants.{Logged, Bound, Over}
use Rattle.muc_service.specs.Casting.{cast}
use Rattle.house_model.specs.declared.answer.Answer.TheVariants as answer
use Rattle.house_model.specs.declared.event.Event.{Event}
use Rattle.house_model.specs.declared.event.Event.TheVariants as event
use Rattle.house_model.specs.declared.reply.Reply.TheVariants as reply
use Rattle.house_model.specs.Sessions.{Hold, Held, Away, Ended, Gone, Rest, Session, begun, unmade}
use Rattle.house_model.specs.Traffic.{Traffic, whole}
use Rattle.house_model.specs.States.{Line, World, State, Kept, keep, keep_by, keep_session}
use Rattle.house_model.specs.Effects.{Effect, At, Begin, Say, bound_line, line_step, apply, apply_all}
use Rattle.house_model.specs.Gate.{Verdict, does, only, to_bind}
use Rattle.house_model.specs.Lookups.{is_there_by, is_at, session_at}
use Rattle.house_model.specs.Routing.{departure}
use Rattle.house_model.specs.Steps.{replaces, binds, bound_address, resource_or, has_come, is_due, due, departs, effect_of, sweeps, verdict, turn}
use Rattle.house_model.specs.Histories.{step}
use Rattle.house_model.specs.Resuming.{is_live, IsSwept, IsReplaced}
use Rattle.house_model.specs.Endings.{IsOverfull}
use Rattle.house_model.specs.Losses.{before_it, after_it}
use Rattle.house_model.specs.Closings.{conn_at, stage_before, stage_after}
use Rattle.house_model.proofs.PutLemmas.{put_here, put_else}
use Rattle.house_model.proofs.SoundLemmas.{same_or_not}
use Rattle.house_model.proofs.FitLemmas.{IsMatched, on_made, replaces_on}
use Rattle.house_model.proofs.Joins.{apply_append}
use Rattle.house_model.proofs.Apart.{waits}
use Rattle.house_model.proofs.Partings.{least_passes, due_is}
use Rattle.house_model.proofs.Deadlines.{AllUndue, has_none}
use Rattle.house_model.proofs.MildEffects.{AllMild, Steady, Treats, steady_same, all_treat, overfull_then}
use Rattle.house_model.proofs.DepartureCases.{queued_mild, departed_gone, departed_mild, departed_lines, Departs}
use Rattle.house_model.proofs.TurnCases as turned
use Rattle.house_model.proofs.TurnCases.{Fate, Course, Turned, effects_now, not_said, mild_verdict}
use Rattle.house_model.proofs.FloodCases.{bind_can}
use Rattle.house_model.proofs.GateTurns.{GateGoes, gate_turn, calm_goes, open_turn, login_turn, enable_turn, act_turn}
use Rattle.house_model.proofs.GateTurns.{ask_turn, pull_turn, drop_turn, close_turn}
use Rattle.house_model.proofs.ResumeTurns.{ack_turn, resume_turn}

-- what is told as session i departs
abbrev told_of : Kept → ℕ → List Effect
told_of k i = map effect_of (cast k.world.rooms (departure k.world i))

told_mild : (k : Kept) (i : ℕ) → AllMild (told_of k i)
told_mild k i = queued_mild (cast k.world.rooms (departure k.world i))

-- whoever is found is there
found_there : (a : Address) (b : Bool) (m : Hold) (t : Traffic) (r : Rest) → is_at a (keep_by b m t r) ≡ true → is_there_by m b ≡ true
found_there a b (Held w c) t r is = refl
found_there a true Away t r is = refl
found_there a false Away t r is = absurd (true≢false (sym is))
found_there a b (Ended cause) t r is = refl
found_there a b Gone t r is = absurd (true≢false (sym is))

found_at : (a : Address) (b : Bool) (m : Hold) (t : Traffic) (r : Rest) → is_at a (keep_by b m t r) ≡ true → same_address r.address a ≡ true
found_at a b (Held w c) t r is = is
found_at a true Away t r is = is
found_at a false Away t r is = absurd (true≢false (sym is))
found_at a b (Ended cause) t r is = is
found_at a b Gone t r is = absurd (true≢false (sym is))

-- Bind

module _ (st : State) (w : ℕ) (id : List ℕ) (resource : Option (List ℕ)) (t : ℕ) (dice : List ℕ) (m : IsMatched st.world) (c u : ℕ)
    (at : stage_before st w ≡ Logged c u) where
  abbrev bind : Event
  bind = event.Bind w id resource t dice

  abbrev kept : Kept
  kept = keep (turn bind st)

  abbrev address : Address
  address = bound_address kept u (resource_or dice resource)

  abbrev next : ℕ
  next = st.world.made + 1

  abbrev begins_so : List Effect
  begins_so = Begin w c address ∷ At w (Say (answer.Bound id (address_text address))) ∷ []

  abbrev binds_so : Option ℕ → Verdict
  binds_so o = does reply.Bound (replaces kept o ++ begins_so)

  module _ (o : Option ℕ) (found : session_at kept address ≡ o) (is : verdict kept bind ≡ binds_so o) where
    abbrev first : World Traffic
    first = apply_all whole st.world (replaces kept o)

    made_is : first.made ≡ st.world.made
    made_is = on_made whole st.world (replaces kept o) (replaces_on kept o)

    abbrev begun_now : World Traffic
    begun_now = apply whole first (Begin w c address)

    state_is : (step st bind).state.world ≡ apply whole begun_now (At w (Say (answer.Bound id (address_text address))))
    state_is = ap (λ (v : Verdict). apply_all whole st.world v.effects) is ∙ apply_append st.world (replaces kept o) begins_so

    bound : (step st bind).reply ≡ reply.Bound
    bound = ap (λ (v : Verdict). v.reply) is

    session_is : (s : ℕ) → (s ≡ next → ⊥) → after_it st bind s ≡ first.sessions s
    session_is s ne =
        ap (λ (z : World Traffic). z.sessions s) state_is
        ∙ put_else (first.made + 1) (begun whole w c address) first.sessions s (λ e. ne (e ∙ ap (λ (n : ℕ). n + 1) made_is))

    line_is : (i : ℕ) → (i ≡ w → ⊥) → stage_after st bind i ≡ (first.lines i).stage
    line_is i ne =
        ap (λ (z : World Traffic). (z.lines i).stage) state_is
        ∙ (ap (λ (l : Line). l.stage) (put_else w (line_step (Say (answer.Bound id (address_text address))) (begun_now.lines w)) begun_now.lines i ne)
        ∙ ap (λ (l : Line). l.stage) (put_else w (bound_line c (first.made + 1) (first.lines w)) first.lines i ne))

    bound_now : stage_after st bind w ≡ Bound c (first.made + 1)
    bound_now =
        ap (λ (z : World Traffic). (z.lines w).stage) state_is
        ∙ (ap (λ (l : Line). l.stage) (put_here w (line_step (Say (answer.Bound id (address_text address))) (begun_now.lines w)) begun_now.lines)
        ∙ ap (λ (l : Line). l.stage) (put_here w (bound_line c (first.made + 1) (first.lines w)) first.lines))

    new_fate : Fate st bind next
    new_fate =
        let none : before_it st next ≡ unmade whole = m.sound.later next (omega arith) in
        let here : (after_it st bind next).hold ≡ Held w c =
        ap (λ (z : World Traffic). (z.sessions next).hold) state_is
        ∙ (ap (λ (n : ℕ). (begun_now.sessions (n + 1)).hold) (sym made_is)
        ∙ ap (λ (y : Session Traffic). y.hold) (put_here (first.made + 1) (begun whole w c address) first.sessions)) in
        turned.begins (ap (λ (y : Session Traffic). y.hold) none) (ap (λ (y : Session Traffic). y.counts) none) (ap is_live here)

    bind_fates : ((s : ℕ) → (s ≡ next → ⊥) → Fate st bind s) → (s : ℕ) → Fate st bind s
    bind_fates others s = elim (same_or_not s next) as (λ _. Fate st bind s) [
      | inl p ↦ subst (Fate st bind) (sym p) new_fate
      | inr ne ↦ others s ne
    ]

    bind_courses : ((i : ℕ) → (i ≡ w → ⊥) → Course st bind i) → (i : ℕ) → Course st bind i
    bind_courses others i = elim (same_or_not i w) as (λ _. Course st bind i) [
      | inl p ↦ subst (Course st bind) (sym p) (turned.joins c (ap waits at) (λ d cause bad. absurd (
          let both : Bound c (first.made + 1) ≡ Over d cause = sym bound_now ∙ bad in
          cc)))
      | inr ne ↦ others i ne
    ]

  -- of an address that no session has
  bind_none : session_at kept address ≡ None → GateGoes st bind (binds_so None)
  bind_none found is = record {
    fate = bind_fates None found is
        (λ s ne. turned.goes (subst (Steady (before_it st s)) (sym (session_is None found is s ne)) (steady_same (before_it st s))));
    course = bind_courses None found is (λ i ne. turned.stays (line_is None found is i ne));
    said = not_said st bind reply.Bound (bound None found is) (λ cause bad. cc);
  }

  -- of one that a session has
  bind_some : (i : ℕ) → session_at kept address ≡ Some i → GateGoes st bind (binds_so (Some i))
  bind_some i found is = record {
    fate = bind_fates (Some i) found is by_session;
    course = bind_courses (Some i) found is (λ x ne. by_line x ne (departed_lines st.world i cause (told_of kept i) (told_mild kept i) m there x));
    said = not_said st bind reply.Bound (bound (Some i) found is) (λ k bad. cc);
  } where
    cause : Cause
    cause = Replaced next

    es : List Effect
    es = departs kept.world i cause

    old : Session Traffic
    old = before_it st i

    at_it : is_at address (keep_session old) ≡ true
    at_it = least_passes st.world.made (λ n. is_at address (keep_session (st.world.sessions n))) i found

    there : is_there_by old.hold old.counts ≡ true
    there = found_there address old.counts old.hold old.traffic old.rest at_it

    replaced : IsReplaced st bind i
    replaced = (
      u,
      record { conn = c; logged = at; bound = bound (Some i) found is; same = found_at address old.counts old.hold old.traffic old.rest at_it },
    )

    is_made : (i ≡ next → ⊥) → (after_it st bind i).hold ≡ Gone
    is_made ne = ap (λ (y : Session Traffic). y.hold) (session_is (Some i) found is i ne)
        ∙ departed_gone st.world i cause (told_of kept i) (told_mild kept i) there

    not_next : i ≡ next → ⊥
    not_next e =
        let none : before_it st next ≡ unmade whole = m.sound.later next (omega arith) in
        let away : is_there_by (before_it st next).hold (before_it st next).counts ≡ false =
        ap (λ (y : Session Traffic). is_there_by y.hold y.counts) none in
        true≢false (sym there ∙ (ap (λ (n : ℕ). is_there_by (st.world.sessions n).hold (st.world.sessions n).counts) e ∙ away))

    gone : (after_it st bind i).hold ≡ Gone
    gone = is_made not_next

    effects_are : effects_now st bind ≡ es ++ begins_so
    effects_are = ap (λ (v : Verdict). v.effects) is

    not_new : (s x d : ℕ) → (before_it st s).hold ≡ Held x d → s ≡ next → ⊥
    not_new s x d held e =
        let none : before_it st next ≡ unmade whole = m.sound.later next (omega arith) in
        let bad : Away ≡ Held x d = sym (ap (λ (y : Session Traffic). y.hold) none) ∙ (ap (λ (n : ℕ). (st.world.sessions n).hold) (sym e) ∙ held) in
        cc

    by_treat : (s : ℕ) → (s ≡ next → ⊥) → Treats st.world es s → Fate st bind s
    by_treat s ne (inl steady) = turned.goes (subst (Steady (before_it st s)) (sym (session_is (Some i) found is s ne)) steady)
    by_treat s ne (inr f) =
        turned.ends (Overfull f.kept f.queued) f.live (ap (λ (y : Session Traffic). y.hold) (session_is (Some i) found is s ne) ∙ f.ended)
        (subst (λ (l : List Effect). IsOverfull st.world l s f.kept f.queued) (sym effects_are) (overfull_then st.world es begins_so s f.kept f.queued f.full))

    by_session : (s : ℕ) → (s ≡ next → ⊥) → Fate st bind s
    by_session s ne = elim (same_or_not s i) as (λ _. Fate st bind s) [
      | inl p ↦ subst (Fate st bind) (sym p) (turned.parts gone (inr (inr replaced)))
      | inr other ↦ by_treat s ne (all_treat es st.world s (departed_mild st.world i cause (told_of kept i) (told_mild kept i) s other))
    ]

    by_line : (x : ℕ) → (x ≡ w → ⊥) → Departs st.world i cause (told_of kept i) (told_mild kept i) x → Course st bind x
    by_line x ne (inl (inl same)) = turned.stays (line_is (Some i) found is x ne ∙ same)
    by_line x ne (inl (inr f)) =
        turned.closes f.conn (Overfull f.kept f.queued) (ap conn_at (m.back f.session x f.conn f.held)) (line_is (Some i) found is x ne ∙ f.over)
        (record {
          session = f.session;
          held = f.held;
          ended = ap (λ (y : Session Traffic). y.hold) (session_is (Some i) found is f.session (not_new f.session x f.conn f.held)) ∙ f.ended;
        })
    by_line x ne (inr l) =
        turned.closes l.conn cause (ap conn_at (m.back i x l.conn l.held)) (line_is (Some i) found is x ne ∙ l.over)
        (record { session = i; held = l.held; departs = gone; replaced = replaced; next = refl })

  binds_goes : (has : Bool) → GateGoes st bind (binds has kept w c address id)
  binds_goes false = calm_goes st bind _ m ((tt, tt), λ cause bad. cc)
  binds_goes true = by_found (session_at kept address) refl where
    by_found : (o : Option ℕ) → session_at kept address ≡ o → GateGoes st bind (binds_so o)
    by_found None found = bind_none found
    by_found (Some i) found = bind_some i found

pub bind_turn : (st : State) (w : ℕ) (id : List ℕ) (resource : Option (List ℕ)) (t : ℕ) (dice : List ℕ) → IsMatched st.world
    → Turned st (event.Bind w id resource t dice)
bind_turn st w id resource t dice m =
    let e : Event = event.Bind w id resource t dice in
    gate_turn st e to_bind m (λ f. f) (bind_can w id resource t dice)
    (λ c at. calm_goes st e _ m (tt, λ cause bad. cc))
    (λ c u at. binds_goes st w id resource t dice m c u at _)
    (λ c s at. calm_goes st e _ m (tt, λ cause bad. cc)) refl

-- Sweep

never : (now : ℕ) (deadline : Option ℕ) → deadline ≡ None → has_come deadline now ≡ true → ⊥
never now deadline none is = true≢false (sym is ∙ ap (λ (o : Option ℕ). has_come o now) none)

-- who is due is there, and no connection holds it
due_there : (now : ℕ) (b : Bool) (m : Hold) (t : Traffic) (r : Rest) → (has_none b m ≡ true → r.deadline ≡ None) → is_due now (keep_by b m t r) ≡ true
    → (is_there_by m b ≡ true) × ((is_live m ≡ false) ⊎ (m ≡ Away))
due_there now b (Held w c) t r undue is = absurd (never now r.deadline (undue refl) is)
due_there now true Away t r undue is = (refl, inr refl)
due_there now false Away t r undue is = absurd (never now r.deadline (undue refl) is)
due_there now b (Ended cause) t r undue is = (refl, inl refl)
due_there now b Gone t r undue is = absurd (true≢false (sym is))

module _ (st : State) (w t : ℕ) (m : IsMatched st.world) (undue : AllUndue st.world) where
  abbrev sweep : Event
  sweep = event.Sweep w t

  abbrev kept_now : Kept
  kept_now = keep (turn sweep st)

  swept : (i : ℕ) → due kept_now ≡ Some i → verdict kept_now sweep ≡ does (reply.Swept i) (departs kept_now.world i Lost) → Turned st sweep
  swept i found is = record {
    fate = by_session;
    course = λ x. by_line x (departed_lines st.world i Lost (told_of kept_now i) (told_mild kept_now i) m there x);
    said = not_said st sweep (reply.Swept i) said (λ cause bad. cc);
  } where
    es : List Effect
    es = departs kept_now.world i Lost

    old : Session Traffic
    old = before_it st i

    due_now : is_due (turn sweep st).head.moment (keep_session old) ≡ true
    due_now = least_passes st.world.made (λ n. is_due (turn sweep st).head.moment (keep_session (st.world.sessions n))) i found

    both : (is_there_by old.hold old.counts ≡ true) × ((is_live old.hold ≡ false) ⊎ (old.hold ≡ Away))
    both = due_there (turn sweep st).head.moment old.counts old.hold old.traffic old.rest (undue i) due_now

    there : is_there_by old.hold old.counts ≡ true
    there = both.0

    said : (step st sweep).reply ≡ reply.Swept i
    said = ap (λ (v : Verdict). v.reply) is

    effects_are : effects_now st sweep ≡ es
    effects_are = ap (λ (v : Verdict). v.effects) is

    session_is : (s : ℕ) → after_it st sweep s ≡ (apply_all whole st.world es).sessions s
    session_is s = ap (λ (l : List Effect). (apply_all whole st.world l).sessions s) effects_are

    line_is : (x : ℕ) → stage_after st sweep x ≡ ((apply_all whole st.world es).lines x).stage
    line_is x = ap (λ (l : List Effect). ((apply_all whole st.world l).lines x).stage) effects_are

    why : (is_live old.hold ≡ false) ⊎ (old.hold ≡ Away) → (is_live old.hold ≡ false) ⊎ ((IsSwept st sweep i × (old.hold ≡ Away)) ⊎ IsReplaced st sweep i)
    why (inl over) = inl over
    why (inr away) = inr (inl (
      (said, due_is (turn sweep st).head.moment old.counts old.hold old.traffic old.rest due_now),
      away,
    ))

    by_treat : (s : ℕ) → Treats st.world es s → Fate st sweep s
    by_treat s (inl steady) = turned.goes (subst (Steady (before_it st s)) (sym (session_is s)) steady)
    by_treat s (inr f) =
        turned.ends (Overfull f.kept f.queued) f.live (ap (λ (y : Session Traffic). y.hold) (session_is s) ∙ f.ended)
        (subst (λ (l : List Effect). IsOverfull st.world l s f.kept f.queued) (sym effects_are) f.full)

    by_session : (s : ℕ) → Fate st sweep s
    by_session s = elim (same_or_not s i) as (λ _. Fate st sweep s) [
      | inl p ↦ subst (Fate st sweep) (sym p) (turned.parts (ap (λ (y : Session Traffic). y.hold) (session_is i)
          ∙ departed_gone st.world i Lost (told_of kept_now i) (told_mild kept_now i) there) (why both.1))
      | inr other ↦ by_treat s (all_treat es st.world s (departed_mild st.world i Lost (told_of kept_now i) (told_mild kept_now i) s other))
    ]

    held_not : (x c : ℕ) → (is_live old.hold ≡ false) ⊎ (old.hold ≡ Away) → old.hold ≡ Held x c → ⊥
    held_not x c (inl over) held = true≢false (sym (ap is_live held) ∙ over)
    held_not x c (inr away) held = (let bad : Away ≡ Held x c = sym away ∙ held in cc)

    by_line : (x : ℕ) → Departs st.world i Lost (told_of kept_now i) (told_mild kept_now i) x → Course st sweep x
    by_line x (inl (inl same)) = turned.stays (line_is x ∙ same)
    by_line x (inl (inr f)) =
        turned.closes f.conn (Overfull f.kept f.queued) (ap conn_at (m.back f.session x f.conn f.held)) (line_is x ∙ f.over)
        (record { session = f.session; held = f.held; ended = ap (λ (y : Session Traffic). y.hold) (session_is f.session) ∙ f.ended })
    by_line x (inr l) = absurd (held_not x l.conn both.1 l.held)

  sweep_by : (o : Option ℕ) → due kept_now ≡ o → verdict kept_now sweep ≡ sweeps kept_now.world o → Turned st sweep
  sweep_by None found is = mild_verdict st sweep (only (reply.Nothing false)) m is tt (λ cause bad. cc)
  sweep_by (Some i) found is = swept i found is

  pub sweep_turn : Turned st sweep
  sweep_turn = sweep_by (due kept_now) refl refl

-- Every event.
pub turn_is : (st : State) (e : Event) → IsMatched st.world → AllUndue st.world → Turned st e
turn_is st (event.OpenLine w) m undue = open_turn st w m
turn_is st (event.Login w user) m undue = login_turn st w user m
turn_is st (event.Bind w id resource t dice) m undue = bind_turn st w id resource t dice m
turn_is st (event.Enable w wants dice) m undue = enable_turn st w wants dice m
turn_is st (event.Resume w id h t) m undue = resume_turn st w id h t m
turn_is st (event.Act w x t) m undue = act_turn st w x t m
turn_is st (event.Ack w h) m undue = ack_turn st w h m
turn_is st (event.Ask w) m undue = ask_turn st w m
turn_is st (event.Pull w t) m undue = pull_turn st w t m
turn_is st (event.DropLine w t) m undue = drop_turn st w t m
turn_is st (event.CloseLine w t) m undue = close_turn st w t m
turn_is st (event.Sweep w t) m undue = sweep_turn st w t m undue
