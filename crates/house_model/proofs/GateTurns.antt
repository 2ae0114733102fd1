-- What each event makes of each session and of each line.
use Rattle.std.proofs.Common.{◌≡◌, ◌⊎◌, inl, inr, ℕ, ◌+◌, ◌&&◌, List, [], ◌∷◌, ◌++◌, Option, Some, None, Bool, true, false}
use Rattle.std.proofs.Common.{refl, sym, ap, ◌∙◌, subst}
use Rattle.std.specs.Prelude.{nat_lt, slice_get}
use Rattle.stanza_tree.specs.declared.frame.Entry.{Entry}
use Rattle.stanza_model.specs.declared.stanza.Stanza.{Stanza}
use Rattle.sm_resume.specs.declared.decision.Cause.{Cause}
use Rattle.sm_resume.specs.declared.decision.Cause.TheVariants.{Closed}
use Rattle.sm_resume.specs.declared.id.ResumeId.{ResumeId}
use Rattle.session_table.specs.declared.line.Line as stage
use Rattle.session_table.specs.declared.line.Line.TheVariants.{Empty, Fresh, Logged, Bound, Over}
use Rattle.muc_service.specs.Casting.{cast}
use Rattle.house_model.specs.declared.answer.Answer.{Answer}
use Rattle.house_model.specs.declared.event.Event.{Event}
use Rattle.house_model.specs.declared.event.Event.TheVariants as event
use Rattle.house_model.specs.declared.reply.Reply.{Reply}
use Rattle.house_model.specs.declared.reply.Reply.TheVariants as reply
use Rattle.house_model.specs.Numbered.{put}
use Rattle.house_model.specs.Sessions.{Hold, Held, Ended, Session, End, step_if, session_step}
use Rattle.house_model.specs.Traffic.{Traffic, KeptTraffic, whole, kept_sent}
use Rattle.house_model.specs.States.{Line, World, State, Kept, keep}
use Rattle.house_model.specs.Effects.{Effect, Open, At, On, Leave, logged, apply, apply_all}
use Rattle.house_model.specs.Gate.{Verdict, only, Waits, Knows, Holds, Needs, to_login, to_act, to_ask, to_manage, to_pull}
use Rattle.house_model.specs.Gate.{left, closed, gate_at}
use Rattle.house_model.specs.Routing.{effects}
use Rattle.house_model.specs.Steps.{leaves, logs_in, body, verdict, turn, asks, enables, requests, gives_entry, pulls}
use Rattle.house_model.specs.Histories.{line_of}
use Rattle.house_model.specs.Resuming.{is_live}
use Rattle.house_model.specs.Losses.{IsFlooded, IsCut, before_it, after_it}
use Rattle.house_model.specs.Closings.{stage_before, stage_after}
use Rattle.house_model.proofs.PutLemmas.{put_is, put_here}
use Rattle.house_model.proofs.FitLemmas.{IsMatched}
use Rattle.house_model.proofs.DepartureCases.{queued_mild}
use Rattle.house_model.proofs.MildEffects.{AllMild, Steady, steady_same}
use Rattle.house_model.proofs.TurnCases as turned
use Rattle.house_model.proofs.TurnCases.{Fate, Course, IsSaid, IsNotOver, Turned, effects_now, not_said, mild_turn, mild_verdict, suits, gate_cases}
use Rattle.house_model.proofs.LossCases.{alone_turn, let_go_is, let_go_turn, cut_turn}
use Rattle.house_model.proofs.FloodCases.{Asks, asks_none, enable_can, ask_can, gate_flooded, flood_turn}
use Rattle.house_model.proofs.Apart.{waits}

-- OpenLine
opened_not_over : (w c : ℕ) (world : World Traffic) → IsNotOver ((apply whole world (Open w)).lines w).stage
opened_not_over w c world d cause bad = absurd (
    let new : ((apply whole world (Open w)).lines w).stage ≡ Fresh (world.opened + 1) = ap (λ (l : Line). l.stage) (put_here w _ world.lines) in
    let both : Fresh (world.opened + 1) ≡ Over d cause = sym new ∙ bad in
    cc)

pub open_turn : (st : State) (w : ℕ) → IsMatched st.world → Turned st (event.OpenLine w)
open_turn st w m =
    cut_turn st (event.OpenLine w) w m (Open w) refl refl
    (λ world at. turned.leaves refl (subst IsNotOver (sym at) (opened_not_over w 0 world)))
    (λ cause bad. absurd (cc))
    refl

-- DropLine
left_not_over : (w : ℕ) (world : World Traffic) → IsNotOver ((apply whole world (At w Leave)).lines w).stage
left_not_over w world d cause bad = absurd (
    let new : ((apply whole world (At w Leave)).lines w).stage ≡ Empty = ap (λ (l : Line). l.stage) (put_here w _ world.lines) in
    let both : Empty ≡ Over d cause = sym new ∙ bad in
    cc)

leaves_as : (g : stage.Line) (w : ℕ) (es : List Effect) → (g ≡ Empty → ⊥) → (leaves g w es).effects ≡ es ++ At w Leave ∷ []
leaves_as Empty w es some = absurd (some refl)
leaves_as (Fresh c) w es some = refl
leaves_as (Logged c u) w es some = refl
leaves_as (Bound c s) w es some = refl
leaves_as (Over c cause) w es some = refl

leaves_says : (g : stage.Line) (w : ℕ) (es : List Effect) (cause : Cause) → (leaves g w es).reply ≡ reply.Over cause → ⊥
leaves_says Empty w es cause bad = cc
leaves_says (Fresh c) w es cause bad = cc
leaves_says (Logged c u) w es cause bad = cc
leaves_says (Bound c s) w es cause bad = cc
leaves_says (Over d other) w es cause bad = cc

-- what is there, or nothing
empty_or_not : (g : stage.Line) → (g ≡ Empty) ⊎ (g ≡ Empty → ⊥)
empty_or_not Empty = inl refl
empty_or_not (Fresh c) = inr (λ bad. cc)
empty_or_not (Logged c u) = inr (λ bad. cc)
empty_or_not (Bound c s) = inr (λ bad. cc)
empty_or_not (Over c cause) = inr (λ bad. cc)

pub drop_turn : (st : State) (w t : ℕ) → IsMatched st.world → Turned st (event.DropLine w t)
drop_turn st w t m =
    let e : Event = event.DropLine w t in
    let g : stage.Line = stage_before st w in
    let es : List Effect = left (keep (turn e st)) g in
    elim (empty_or_not g) as (λ _. Turned st e) [
      | inl none ↦ mild_verdict st e (only reply.Absent) m (ap (λ (x : stage.Line). leaves x w es) none) tt (λ cause bad. cc)
      | inr some ↦ cut_turn st e w m (At w Leave) refl refl
          (λ world at. turned.leaves refl (subst IsNotOver (sym at) (left_not_over w world)))
          (λ cause bad. absurd (leaves_says g w es cause bad))
          (leaves_as g w es some)
    ]

-- CloseLine
pub end_hold : (b : Bool) (t : Traffic) (r : _) (v d : ℕ) (cause : Cause) → (step_if whole b (Held v d) t r (End cause)).hold ≡ Ended cause
end_hold true t r v d cause = refl
end_hold false t r v d cause = refl

module _ (st : State) (w t : ℕ) (m : IsMatched st.world) where
  abbrev close : Event
  close = event.CloseLine w t

  close_said : IsSaid st close
  close_said cause bad = absurd (leaves_says (stage_before st w) w (closed (stage_before st w)) cause bad)

  close_here : (world : World Traffic) → stage_after st close w ≡ ((apply whole world (At w Leave)).lines w).stage → Course st close w
  close_here world at = turned.leaves refl (subst IsNotOver (sym at) (left_not_over w world))

  close_by : (g : stage.Line) → stage_before st w ≡ g → effects_now st close ≡ closed g ++ At w Leave ∷ [] → Turned st close
  close_by Empty at is = alone_turn st close w (At w Leave) refl is (close_here st.world) close_said
  close_by (Fresh c) at is = alone_turn st close w (At w Leave) refl is (close_here st.world) close_said
  close_by (Logged c u) at is = alone_turn st close w (At w Leave) refl is (close_here st.world) close_said
  close_by (Over c cause) at is = alone_turn st close w (At w Leave) refl is (close_here st.world) close_said
  close_by (Bound c s) at is =
      let x : Session Traffic = before_it st s in
      let held : x.hold ≡ Held w c = m.sound.tied w c s at in
      let over : (session_step whole x (End Closed)).hold ≡ Ended Closed =
      ap (λ (n : Hold). (step_if whole x.counts n x.traffic x.rest (End Closed)).hold) held ∙ end_hold x.counts x.traffic x.rest w c Closed in
      let now : after_it st close s ≡ session_step whole x (End Closed) = let_go_is st close w c s (End Closed) (At w Leave) refl is held in
      let_go_turn st close w c s (End Closed) (At w Leave) refl is held (inr (Closed, over))
      (turned.ends Closed (ap is_live held) (ap (λ (y : Session Traffic). y.hold) now ∙ over) (c, held))
      (close_here (apply whole st.world (On s (End Closed)))) close_said

  pub close_turn : Turned st close
  close_turn =
      let g : stage.Line = stage_before st w in
      elim (empty_or_not g) as (λ _. Turned st close) [
        | inl none ↦ mild_verdict st close (only reply.Absent) m (ap (λ (x : stage.Line). leaves x w (closed g)) none) tt (λ cause bad. cc)
        | inr some ↦ close_by g refl (leaves_as g w (closed g) some)
      ]

-- The events that the gate checks.

abbrev pub GateGoes : State → Event → Verdict → Type 0
GateGoes st e v = verdict (keep (turn e st)) e ≡ v → Turned st e

stopped_turn : (st : State) (e : Event) (r : Reply) → IsMatched st.world → ((cause : Cause) → r ≡ reply.Over cause → ⊥) → GateGoes st e (only r)
stopped_turn st e r m none is = mild_verdict st e (only r) m is tt none

-- a connection that is over is told so again
over_turn : (st : State) (e : Event) (c : ℕ) (cause : Cause) → IsMatched st.world → stage_before st (line_of e) ≡ Over c cause
    → GateGoes st e (only (reply.Over cause))
over_turn st e c cause m at is =
    mild_turn st e m (subst (λ (x : Verdict). AllMild x.effects) (sym is) tt) said where
      said : IsSaid st e
      said other r =
          let both : reply.Over cause ≡ reply.Over other = sym (ap (λ (v : Verdict). v.reply) is) ∙ r in
          let same : cause ≡ other = cc in (
            c,
            ap (λ (v : Verdict). ((apply_all whole st.world v.effects).lines (line_of e)).stage) is ∙ (at ∙ ap (Over c) same),
          )

pub gate_turn : (st : State) (e : Event) (n : Needs) → IsMatched st.world → (IsFlooded st e (line_of e) → IsCut st e (line_of e)) → Asks e n
    → ((c : ℕ) → stage_before st (line_of e) ≡ Fresh c → GateGoes st e (body (keep (turn e st)) e Waits))
    → ((c u : ℕ) → stage_before st (line_of e) ≡ Logged c u → GateGoes st e (body (keep (turn e st)) e (Knows c u)))
    → ((c s : ℕ) → stage_before st (line_of e) ≡ Bound c s → GateGoes st e (body (keep (turn e st)) e (Holds c s)))
    → GateGoes st e (body (keep (turn e st)) e (gate_at n (keep (turn e st)) (line_of e) (st.world.lines (line_of e)) (stage_before st (line_of e))))
gate_turn st e n m cut asks waits knows holds =
    let w : ℕ = line_of e in
    gate_cases (GateGoes st e) (keep (turn e st)) e n w (st.world.lines w) (stage_before st w)
    (λ at. stopped_turn st e reply.Absent m (λ cause bad. cc))
    (λ c cause at. over_turn st e c cause m at)
    (stopped_turn st e reply.Unready m (λ cause bad. cc))
    (λ c conn suit full is. (
    let f : IsFlooded st e w = gate_flooded st e n asks suit full in
    flood_turn st e m (cut f) c conn f is))
    waits knows holds

-- Verdicts that are mild.

abbrev pub IsCalm : Verdict → Type 0
IsCalm v = AllMild v.effects × ((cause : Cause) → v.reply ≡ reply.Over cause → ⊥)

pub calm_goes : (st : State) (e : Event) (v : Verdict) → IsMatched st.world → IsCalm v → GateGoes st e v
calm_goes st e v m calm is = mild_verdict st e v m is calm.0 calm.1

-- events by which a connection asks for no answer, or for one: how it is flooded says that it is lost
calm_turn : (st : State) (e : Event) (n : Needs) → IsMatched st.world → (IsFlooded st e (line_of e) → IsCut st e (line_of e)) → Asks e n
    → IsCalm (body (keep (turn e st)) e Waits)
    → ((c u : ℕ) → IsCalm (body (keep (turn e st)) e (Knows c u))) → ((c s : ℕ) → IsCalm (body (keep (turn e st)) e (Holds c s)))
    → GateGoes st e (body (keep (turn e st)) e (gate_at n (keep (turn e st)) (line_of e) (st.world.lines (line_of e)) (stage_before st (line_of e))))
calm_turn st e n m cut asks waits knows holds =
    gate_turn st e n m cut asks (λ c at. calm_goes st e (body (keep (turn e st)) e Waits) m waits)
    (λ c u at. calm_goes st e (body (keep (turn e st)) e (Knows c u)) m (knows c u))
    (λ c s at. calm_goes st e (body (keep (turn e st)) e (Holds c s)) m (holds c s))

enables_calm : (counts : Bool) (w s : ℕ) (id : Option ResumeId) → IsCalm (enables counts w s id)
enables_calm true w s id = ((tt, tt), λ cause bad. cc)
enables_calm false w s id = ((tt, (tt, tt)), λ cause bad. cc)

pub enable_turn : (st : State) (w : ℕ) (wants : Bool) (dice : List ℕ) → IsMatched st.world → Turned st (event.Enable w wants dice)
enable_turn st w wants dice m =
    calm_turn st (event.Enable w wants dice) to_manage m (λ f. f) (enable_can w wants dice) (tt, λ cause bad. cc)
    (λ c u. ((tt, tt), λ cause bad. cc)) (λ c s. enables_calm _ w s _) refl

asks_calm : (counts : Bool) (w s : ℕ) (t : KeptTraffic) → IsCalm (asks counts w s t)
asks_calm true w s t = ((tt, (tt, tt)), λ cause bad. cc)
asks_calm false w s t = (tt, λ cause bad. cc)

pub ask_turn : (st : State) (w : ℕ) → IsMatched st.world → Turned st (event.Ask w)
ask_turn st w m =
    calm_turn st (event.Ask w) to_ask m (λ f. f) (ask_can w) (tt, λ cause bad. cc) (λ c u. (tt, λ cause bad. cc))
    (λ c s. asks_calm _ w s _) refl

pub act_turn : (st : State) (w : ℕ) (x : Stanza) (t : ℕ) → IsMatched st.world → Turned st (event.Act w x t)
act_turn st w x t m =
    let k : Kept = keep (turn (event.Act w x t) st) in
    calm_turn st (event.Act w x t) to_act m (λ f. f) (asks_none (event.Act w x t) to_act refl) (tt, λ cause bad. cc) (λ c u. (tt, λ cause bad. cc))
    (λ c s. ((tt, queued_mild (cast k.world.rooms (effects k s x))), λ cause bad. cc)) refl

requests_calm : (owed : Bool) (k : Kept) (s : ℕ) → IsCalm (requests owed k s)
requests_calm true k s = ((tt, tt), λ cause bad. cc)
requests_calm false k s = (tt, λ cause bad. cc)

entry_calm : (o : Option Entry) (k : Kept) (s : ℕ) (x : Session KeptTraffic) → IsCalm (gives_entry o k s x)
entry_calm (Some entry) k s x = ((tt, tt), λ cause bad. cc)
entry_calm None k s x = requests_calm (x.counts && nat_lt x.traffic.asked_at (kept_sent x.traffic)) k s

pulls_calm : (answers : List Answer) (k : Kept) (w c s : ℕ) → IsCalm (pulls k w answers (Holds c s))
pulls_calm [] k w c s =
    entry_calm (slice_get (k.world.sessions s).traffic.waiting (k.world.sessions s).traffic.given) k s (k.world.sessions s)
pulls_calm (a ∷ more) k w c s = ((tt, tt), λ cause bad. cc)

waits_calm : (answers : List Answer) (k : Kept) (w : ℕ) → IsCalm (pulls k w answers Waits)
waits_calm [] k w = (tt, λ cause bad. cc)
waits_calm (a ∷ more) k w = ((tt, tt), λ cause bad. cc)

knows_calm : (answers : List Answer) (k : Kept) (w c u : ℕ) → IsCalm (pulls k w answers (Knows c u))
knows_calm [] k w c u = (tt, λ cause bad. cc)
knows_calm (a ∷ more) k w c u = ((tt, tt), λ cause bad. cc)

pub pull_turn : (st : State) (w t : ℕ) → IsMatched st.world → Turned st (event.Pull w t)
pull_turn st w t m =
    let k : Kept = keep (turn (event.Pull w t) st) in
    calm_turn st (event.Pull w t) to_pull m (λ f. f) (asks_none (event.Pull w t) to_pull refl) (waits_calm (k.world.lines w).answers k w)
    (λ c u. knows_calm (k.world.lines w).answers k w c u) (λ c s. pulls_calm (k.world.lines w).answers k w c s) refl

-- Login
login_goes : (place : Option ℕ) (st : State) (e : Event) (c : ℕ) → IsMatched st.world → stage_before st (line_of e) ≡ Fresh c
    → GateGoes st e (logs_in (line_of e) place)
login_goes None st e c m at is = mild_verdict st e (only reply.NoUser) m is tt (λ cause bad. cc)
login_goes (Some place) st e c m at is = record {
  fate = λ s. turned.goes (subst (Steady (before_it st s)) (sym (ap (λ (v : Verdict). (apply_all whole st.world v.effects).sessions s) is))
      (steady_same (before_it st s)));
  course = by_line;
  said = not_said st e reply.Done (ap (λ (v : Verdict). v.reply) is) (λ cause bad. cc);
} where
  w : ℕ
  w = line_of e

  new : Line
  new = record (st.world.lines w) { stage = logged place (st.world.lines w).stage }

  lines_are : (x : ℕ) → stage_after st e x ≡ (put w new st.world.lines x).stage
  lines_are x = ap (λ (v : Verdict). ((apply_all whole st.world v.effects).lines x).stage) is

  by_line : (x : ℕ) → Course st e x
  by_line x = elim (put_is w new st.world.lines x) as (λ _. Course st e x) [
    | inl p ↦ turned.joins c (ap (λ (i : ℕ). waits (st.world.lines i).stage) p.0 ∙ ap waits at) (λ d cause bad. absurd (
        let now : stage_after st e x ≡ Logged c place = lines_are x ∙ (ap (λ (l : Line). l.stage) p.1 ∙ ap (logged place) at) in
        let both : Logged c place ≡ Over d cause = sym now ∙ bad in
        cc))
    | inr p ↦ turned.stays (lines_are x ∙ ap (λ (l : Line). l.stage) p.1)
  ]

pub login_turn : (st : State) (w : ℕ) (user : List ℕ) → IsMatched st.world → Turned st (event.Login w user)
login_turn st w user m =
    gate_turn st (event.Login w user) to_login m (λ f. f) (asks_none (event.Login w user) to_login refl)
    (λ c at. login_goes _ st (event.Login w user) c m at)
    (λ c u at. stopped_turn st (event.Login w user) reply.Unready m (λ cause bad. cc))
    (λ c s at. stopped_turn st (event.Login w user) reply.Unready m (λ cause bad. cc)) refl
