-- What becomes of sessions and lines where a connection is lost, closed or flooded.
use Rattle.std.proofs.Common.{◌≡◌, ◌⊎◌, inl, inr, ℕ, ◌+◌, List, [], ◌∷◌, ◌++◌, Option, Some, None, Bool, true, false}
use Rattle.std.proofs.Common.{refl, sym, ap, ◌∙◌, subst}
use Rattle.std.specs.Prelude.{◌&&◌, is_some}
use Rattle.sm_resume.specs.declared.decision.Cause.{Cause}
use Rattle.sm_resume.specs.declared.decision.Cause.TheVariants.{Lost}
use Rattle.sm_resume.specs.declared.id.ResumeId.{ResumeId}
use Rattle.session_table.specs.declared.line.Line as stage
use Rattle.session_table.specs.declared.line.Line.TheVariants.{Empty, Fresh, Logged, Bound, Over}
use Rattle.house_model.specs.declared.event.Event.{Event}
use Rattle.house_model.specs.Numbered.{put}
use Rattle.house_model.specs.Sessions.{Hold, Held, Away, Ended, Rest, Session, Op, session, step_if, session_step}
use Rattle.house_model.specs.Traffic.{Traffic, whole}
use Rattle.house_model.specs.States.{Line, World, State, keep, keep_by, keep_session}
use Rattle.house_model.specs.Effects.{Effect, Open, At, On, Leave, Close, settled, apply, apply_all}
use Rattle.house_model.specs.Gate.{patience, left_by}
use Rattle.house_model.specs.Gate.{left}
use Rattle.house_model.specs.Steps.{turn}
use Rattle.house_model.specs.Resuming.{is_live}
use Rattle.house_model.specs.Losses.{IsCut, can_return, before_it, after_it, away_until}
use Rattle.house_model.specs.Closings.{stage_before, stage_after}
use Rattle.house_model.proofs.PutLemmas.{put_here, put_else}
use Rattle.house_model.proofs.SoundLemmas.{same_or_not}
use Rattle.house_model.proofs.FitLemmas.{IsMatched}
use Rattle.house_model.proofs.MildEffects.{Steady, steady_same}
use Rattle.house_model.proofs.TurnCases as turned
use Rattle.house_model.proofs.TurnCases.{Fate, Course, IsSaid, IsNotOver, Turned, effects_now, suits}

-- an effect that ends a list: it writes line w, by itself
abbrev pub IsLast : ℕ → Effect → Type 0
IsLast w (Open v) = v ≡ w
IsLast w (At v Leave) = v ≡ w
IsLast w (At v (Close c cause)) = v ≡ w
IsLast w e = ⊥

last_sessions : (w : ℕ) (e : Effect) (world : World Traffic) → IsLast w e → (apply whole world e).sessions ≡ world.sessions
last_sessions w (Open v) world last = refl
last_sessions w (At v op) world last = refl
last_sessions w (On s op) world last = absurd last
last_sessions w e world last = absurd last

put_far : (v : ℕ) (y : Line) (ls : ℕ → Line) (w x : ℕ) → v ≡ w → (x ≡ w → ⊥) → put v y ls x ≡ ls x
put_far v y ls w x same ne = put_else v y ls x (λ e. ne (e ∙ same))

last_others : (w : ℕ) (e : Effect) (world : World Traffic) (x : ℕ) → IsLast w e → (x ≡ w → ⊥) → (apply whole world e).lines x ≡ world.lines x
last_others w (Open v) world x last ne = put_far v _ world.lines w x last ne
last_others w (At v Leave) world x last ne = put_far v _ world.lines w x last ne
last_others w (At v (Close c cause)) world x last ne = put_far v _ world.lines w x last ne
last_others w (At v op) world x last ne = absurd last
last_others w (On s op) world x last ne = absurd last
last_others w e world x last ne = absurd last

-- A line that holds no session.
module _ (st : State) (e : Event) (w : ℕ) (last : Effect) (is_last : IsLast w last) (is : effects_now st e ≡ last ∷ []) where
  pub alone_turn : (stage_after st e w ≡ ((apply whole st.world last).lines w).stage → Course st e w) → IsSaid st e → Turned st e
  alone_turn here said = record {
    fate = λ s. turned.goes (subst (Steady (before_it st s)) (sym (same s)) (steady_same (before_it st s)));
    course = by_line;
    said = said;
  } where
    same : (s : ℕ) → after_it st e s ≡ before_it st s
    same s = ap (λ (es : List Effect). (apply_all whole st.world es).sessions s) is
        ∙ ap (λ (f : ℕ → Session Traffic). f s) (last_sessions w last st.world is_last)

    by_line : (x : ℕ) → Course st e x
    by_line x = elim (same_or_not x w) as (λ _. Course st e x) [
      | inl p ↦ subst (Course st e) (sym p) (here (ap (λ (es : List Effect). ((apply_all whole st.world es).lines w).stage) is))
      | inr ne ↦ turned.stays (ap (λ (es : List Effect). ((apply_all whole st.world es).lines x).stage) is
          ∙ ap (λ (l : Line). l.stage) (last_others w last st.world x is_last ne))
    ]

-- an operation by which a connection lets its session go
abbrev pub LetsGo : Session Traffic → Op → Type 0
LetsGo x op = ((session_step whole x op).hold ≡ Away) ⊎ ((cause : Cause) × ((session_step whole x op).hold ≡ Ended cause))

settled_far : (s w c : ℕ) (n : Hold) (ls : ℕ → Line) (x : ℕ) → (n ≡ Away) ⊎ ((cause : Cause) × (n ≡ Ended cause)) → (x ≡ w → ⊥)
    → settled s (Held w c) n ls x ≡ ls x
settled_far s w c n ls x (inl is) ne = ap (λ (m : Hold). settled s (Held w c) m ls x) is ∙ put_else w _ ls x ne
settled_far s w c n ls x (inr p) ne = ap (λ (m : Hold). settled s (Held w c) m ls x) p.1 ∙ put_else w _ ls x ne

-- A line that holds one.
module _ (st : State) (e : Event) (w c s : ℕ) (op : Op) (last : Effect) (is_last : IsLast w last)
    (is : effects_now st e ≡ On s op ∷ last ∷ []) (held : (before_it st s).hold ≡ Held w c) where
  abbrev pub then : World Traffic
  then = apply whole st.world (On s op)

  sessions_are : (i : ℕ) → after_it st e i ≡ then.sessions i
  sessions_are i = ap (λ (es : List Effect). (apply_all whole st.world es).sessions i) is
      ∙ ap (λ (f : ℕ → Session Traffic). f i) (last_sessions w last then is_last)

  pub let_go_is : after_it st e s ≡ session_step whole (before_it st s) op
  let_go_is = sessions_are s ∙ put_here s (session_step whole (before_it st s) op) st.world.sessions

  pub let_go_turn : LetsGo (before_it st s) op → Fate st e s
      → (stage_after st e w ≡ ((apply whole then last).lines w).stage → Course st e w) → IsSaid st e → Turned st e
  let_go_turn lets mine here said = record { fate = by_session; course = by_line; said = said } where
    by_session : (i : ℕ) → Fate st e i
    by_session i = elim (same_or_not i s) as (λ _. Fate st e i) [
      | inl p ↦ subst (Fate st e) (sym p) mine
      | inr ne ↦ turned.goes (subst (Steady (before_it st i))
          (sym (sessions_are i ∙ put_else s (session_step whole (before_it st s) op) st.world.sessions i ne)) (steady_same (before_it st i)))
    ]

    by_line : (x : ℕ) → Course st e x
    by_line x = elim (same_or_not x w) as (λ _. Course st e x) [
      | inl p ↦ subst (Course st e) (sym p) (here (ap (λ (es : List Effect). ((apply_all whole st.world es).lines w).stage) is))
      | inr ne ↦ turned.stays (ap (λ (es : List Effect). ((apply_all whole st.world es).lines x).stage) is
          ∙ (ap (λ (l : Line). l.stage) (last_others w last then x is_last ne)
          ∙ (ap (λ (m : Hold). (settled s m (session_step whole (before_it st s) op).hold st.world.lines x).stage) held
          ∙ ap (λ (l : Line). l.stage) (settled_far s w c (session_step whole (before_it st s) op).hold st.world.lines x lets ne))))
    ]

-- What becomes of a session that is left.

abbrev pub left_session : (st : State) (e : Event) (s : ℕ) → Op
left_session st e s = left_by (before_it st s).rest.resume_id (turn e st).head.moment

left_cases : (b : Bool) (t : Traffic) (r : Rest) (w c now : ℕ) (id : Option ResumeId)
    → (((b && is_some id) ≡ false) × ((step_if whole b (Held w c) t r (left_by id now)).hold ≡ Ended Lost))
    ⊎ (((b && is_some id) ≡ true) × (step_if whole b (Held w c) t r (left_by id now) ≡ session b Away t (record r { deadline = Some (now + patience) })))
left_cases true t r w c now None = inl (refl, refl)
left_cases false t r w c now None = inl (refl, refl)
left_cases true t r w c now (Some id) = inr (refl, refl)
left_cases false t r w c now (Some id) = inl (refl, refl)

-- lost, where it can't be resumed; else away until the deadline
pub left_is : (st : State) (e : Event) (s w c : ℕ) → (before_it st s).hold ≡ Held w c
    → ((can_return (before_it st s) ≡ false) × ((session_step whole (before_it st s) (left_session st e s)).hold ≡ Ended Lost))
    ⊎ ((can_return (before_it st s) ≡ true)
    × (session_step whole (before_it st s) (left_session st e s) ≡ away_until ((turn e st).head.moment + patience) (before_it st s)))
left_is st e s w c held =
    let x : Session Traffic = before_it st s in
    subst (λ (m : Hold). ((can_return x ≡ false) × ((step_if whole x.counts m x.traffic x.rest (left_session st e s)).hold ≡ Ended Lost))
    ⊎ ((can_return x ≡ true)
    × (step_if whole x.counts m x.traffic x.rest (left_session st e s) ≡ away_until ((turn e st).head.moment + patience) x)))
    (sym held) (left_cases x.counts x.traffic x.rest w c (turn e st).head.moment x.rest.resume_id)

pub left_lets : (st : State) (e : Event) (s w c : ℕ) → (before_it st s).hold ≡ Held w c → LetsGo (before_it st s) (left_session st e s)
left_lets st e s w c held = elim (left_is st e s w c held) as (λ _. LetsGo (before_it st s) (left_session st e s)) [
  | inl p ↦ inr (Lost, p.1)
  | inr p ↦ inl (ap (λ (y : Session Traffic). y.hold) p.1)
]

-- what is kept of a session that is held has its id
kept_id : (x : Session Traffic) (w c : ℕ) → x.hold ≡ Held w c → (keep_session x).rest.resume_id ≡ x.rest.resume_id
kept_id x w c held = ap (λ (m : Hold). (keep_by x.counts m x.traffic x.rest).rest.resume_id) held

pub left_bound : (st : State) (e : Event) (w c s : ℕ) (g : stage.Line) → g ≡ Bound c s → (before_it st s).hold ≡ Held w c
    → left (keep (turn e st)) g ≡ On s (left_session st e s) ∷ []
left_bound st e w c s g at held =
    ap (left (keep (turn e st))) at
    ∙ ap (λ (id : Option ResumeId). On s (left_by id (turn e st).head.moment) ∷ []) (kept_id (before_it st s) w c held)

-- The turn, whatever the stage.
module _ (st : State) (e : Event) (w : ℕ) (m : IsMatched st.world) (last : Effect) (is_last : IsLast w last) (cut : IsCut st e w)
    (here : (world : World Traffic) → stage_after st e w ≡ ((apply whole world last).lines w).stage → Course st e w) (said : IsSaid st e) where
  left_fate : (s c : ℕ) (is : effects_now st e ≡ On s (left_session st e s) ∷ last ∷ []) → (before_it st s).hold ≡ Held w c → Fate st e s
  left_fate s c is held =
      let now : after_it st e s ≡ session_step whole (before_it st s) (left_session st e s) =
      let_go_is st e w c s (left_session st e s) last is_last is held in
      elim (left_is st e s w c held) as (λ _. Fate st e s) [
        | inl p ↦ turned.ends Lost (ap is_live held) (ap (λ (y : Session Traffic). y.hold) now ∙ p.1)
            (record { line = w; conn = c; held = held; cut = cut; lasts = p.0 })
        | inr p ↦ turned.waits_now w c held cut (ap (λ (y : Session Traffic). y.hold) (now ∙ p.1))
      ]

  by_stage : (g : stage.Line) → stage_before st w ≡ g → effects_now st e ≡ left (keep (turn e st)) g ++ last ∷ [] → Turned st e
  by_stage Empty at is = alone_turn st e w last is_last is (here st.world) said
  by_stage (Fresh c) at is = alone_turn st e w last is_last is (here st.world) said
  by_stage (Logged c u) at is = alone_turn st e w last is_last is (here st.world) said
  by_stage (Over c cause) at is = alone_turn st e w last is_last is (here st.world) said
  by_stage (Bound c s) at is =
      let held : (before_it st s).hold ≡ Held w c = m.sound.tied w c s at in
      let op : Op = left_session st e s in
      let so : effects_now st e ≡ On s op ∷ last ∷ [] = is ∙ ap (λ (es : List Effect). es ++ last ∷ []) (left_bound st e w c s (Bound c s) refl held) in
      let_go_turn st e w c s op last is_last so held (left_lets st e s w c held) (left_fate s c so held)
      (here (apply whole st.world (On s op))) said

  pub cut_turn : effects_now st e ≡ left (keep (turn e st)) (stage_before st w) ++ last ∷ [] → Turned st e
  cut_turn is = by_stage (stage_before st w) refl is
