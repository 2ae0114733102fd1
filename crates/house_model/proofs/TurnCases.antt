-- What a turn makes of each session and of each line.
use Rattle.std.proofs.Common.{◌≡◌, ◌⊎◌, inl, inr, ℕ, List, Some, Bool, true, false, refl, sym, ap, ◌∙◌, subst}
use Rattle.sm_resume.specs.declared.decision.Cause.{Cause}
use Rattle.sm_resume.specs.declared.decision.Cause.TheVariants.{Overfull}
use Rattle.session_table.specs.declared.line.Line as stage
use Rattle.session_table.specs.declared.line.Line.TheVariants.{Empty, Fresh, Logged, Bound, Over}
use Rattle.house_model.specs.declared.event.Event.{Event}
use Rattle.house_model.specs.declared.reply.Reply.{Reply}
use Rattle.house_model.specs.declared.reply.Reply.TheVariants as reply
use Rattle.house_model.specs.Sessions.{Held, Away, Ended, Gone}
use Rattle.house_model.specs.States.{Line, State, Kept, keep}
use Rattle.house_model.specs.Effects.{Effect}
use Rattle.house_model.specs.Gate.{Verdict, only, Pass, Waits, Knows, Holds, Needs, is_full, flooded, ready, gate_at}
use Rattle.house_model.specs.Steps.{body, verdict, turn}
use Rattle.house_model.specs.Histories.{step, line_of}
use Rattle.house_model.specs.Resuming.{is_live, IsSwept, IsReplaced}
use Rattle.house_model.specs.Endings.{IsEndedBy}
use Rattle.house_model.specs.Losses.{IsCut, IsTakenUp, before_it, after_it}
use Rattle.house_model.specs.Closings.{IsLeft, IsToldBy, conn_at, stage_before, stage_after}
use Rattle.house_model.proofs.FitLemmas.{IsMatched}
use Rattle.house_model.proofs.Apart.{waits}
use Rattle.house_model.proofs.GateLemmas.{flood}
use Rattle.house_model.proofs.MildEffects.{AllMild, Steady, Treats, all_mild_to, all_treat}
use Rattle.house_model.proofs.MildLines.{Runs, all_run}

-- A session is held as before, is made, is over, lost its connection, is taken up, or departs.
pub data Fate (st : State) (e : Event) (s : ℕ) : Type 0 where
  goes : Steady (before_it st s) (after_it st e s) → Fate st e s
  begins : (before_it st s).hold ≡ Away → (before_it st s).counts ≡ false → is_live (after_it st e s).hold ≡ true → Fate st e s
  ends : (cause : Cause) → is_live (before_it st s).hold ≡ true → (after_it st e s).hold ≡ Ended cause → IsEndedBy st e s cause → Fate st e s
  waits_now : (w c : ℕ) → (before_it st s).hold ≡ Held w c → IsCut st e w → (after_it st e s).hold ≡ Away → Fate st e s
  taken : is_live (before_it st s).hold ≡ true → IsTakenUp st e s → (v d : ℕ) → (after_it st e s).hold ≡ Held v d → Fate st e s
  parts : (after_it st e s).hold ≡ Gone
      → ((is_live (before_it st s).hold ≡ false) ⊎ ((IsSwept st e s × ((before_it st s).hold ≡ Away)) ⊎ IsReplaced st e s)) → Fate st e s

abbrev pub IsNotOver : stage.Line → Type 0
IsNotOver g = (c : ℕ) (cause : Cause) → g ≡ Over c cause → ⊥

-- A line stays at its stage, its connection logs in or comes to hold a session, it is left, or it is over.
pub data Course (st : State) (e : Event) (w : ℕ) : Type 0 where
  stays : stage_after st e w ≡ stage_before st w → Course st e w
  joins : (c : ℕ) → waits (stage_before st w) ≡ Some c → IsNotOver (stage_after st e w) → Course st e w
  leaves : IsLeft e w → IsNotOver (stage_after st e w) → Course st e w
  closes : (c : ℕ) (cause : Cause) → conn_at (stage_before st w) ≡ Some c → stage_after st e w ≡ Over c cause → IsToldBy st e w c cause → Course st e w

abbrev pub IsSaid : State → Event → Type 0
IsSaid st e = (cause : Cause) → (step st e).reply ≡ reply.Over cause → (c : ℕ) × (stage_after st e (line_of e) ≡ Over c cause)

pub record Turned (st : State) (e : Event) : Type 0 where
  pub fate : (s : ℕ) → Fate st e s
  pub course : (w : ℕ) → Course st e w
  pub said : IsSaid st e

abbrev pub effects_now : State → Event → List Effect
effects_now st e = (verdict (keep (turn e st)) e).effects

-- by mild effects
pub mild_turn : (st : State) (e : Event) → IsMatched st.world → AllMild (effects_now st e) → IsSaid st e → Turned st e
mild_turn st e m mild said = record {
  fate = λ s. by_session s (all_treat (effects_now st e) st.world s (all_mild_to s (effects_now st e) mild));
  course = λ w. by_line w (all_run (effects_now st e) st.world w mild m);
  said = said;
} where
  by_session : (s : ℕ) → Treats st.world (effects_now st e) s → Fate st e s
  by_session s (inl steady) = goes steady
  by_session s (inr f) = ends (Overfull f.kept f.queued) f.live f.ended f.full

  by_line : (w : ℕ) → Runs st.world (effects_now st e) w → Course st e w
  by_line w (inl same) = stays same
  by_line w (inr c) =
      closes c.conn (Overfull c.kept c.queued) (ap conn_at (m.back c.session w c.conn c.held)) c.over
      (record { session = c.session; held = c.held; ended = c.ended })

-- a reply that is another
pub not_said : (st : State) (e : Event) (r : Reply) → (step st e).reply ≡ r → ((cause : Cause) → r ≡ reply.Over cause → ⊥) → IsSaid st e
not_said st e r is none cause bad = absurd (none cause (sym is ∙ bad))

-- the mild turn of a verdict
pub mild_verdict : (st : State) (e : Event) (v : Verdict) → IsMatched st.world → verdict (keep (turn e st)) e ≡ v → AllMild v.effects
    → ((cause : Cause) → v.reply ≡ reply.Over cause → ⊥) → Turned st e
mild_verdict st e v m is mild none =
    mild_turn st e m (subst (λ (x : Verdict). AllMild x.effects) (sym is) mild)
    (not_said st e v.reply (ap (λ (x : Verdict). x.reply) is) none)

-- The gate.

-- whether an event that needs this can come at a stage
abbrev pub suits : Needs → stage.Line → Bool
suits n Empty = false
suits n (Fresh c) = n.fresh
suits n (Logged c user) = n.logged
suits n (Bound c s) = n.bound
suits n (Over c cause) = false

module _ (P : Verdict → Type 0) (k : Kept) (e : Event) (n : Needs) (w : ℕ) (l : Line) where
  checked_by : (fits full : Bool) (c : ℕ) (g : stage.Line) (pass : Pass) → P (only reply.Unready)
      → (fits ≡ true → full ≡ true → P (flood k w c g)) → P (body k e pass) → P (body k e (ready fits (flooded full k w c g pass)))
  checked_by true true c g pass unready floods passes = floods refl refl
  checked_by true false c g pass unready floods passes = passes
  checked_by false full c g pass unready floods passes = unready

  pub gate_cases : (g : stage.Line) → (g ≡ Empty → P (only reply.Absent)) → ((c : ℕ) (cause : Cause) → g ≡ Over c cause → P (only (reply.Over cause)))
      → P (only reply.Unready)
      → ((c : ℕ) → conn_at g ≡ Some c → suits n g ≡ true → is_full n l ≡ true → P (flood k w c g))
      → ((c : ℕ) → g ≡ Fresh c → P (body k e Waits))
      → ((c u : ℕ) → g ≡ Logged c u → P (body k e (Knows c u)))
      → ((c s : ℕ) → g ≡ Bound c s → P (body k e (Holds c s)))
      → P (body k e (gate_at n k w l g))
  gate_cases Empty absent over unready floods waits knows holds = absent refl
  gate_cases (Over c cause) absent over unready floods waits knows holds = over c cause refl
  gate_cases (Fresh c) absent over unready floods waits knows holds =
      checked_by n.fresh (is_full n l) c (Fresh c) Waits unready (floods c refl) (waits c refl)
  gate_cases (Logged c u) absent over unready floods waits knows holds =
      checked_by n.logged (is_full n l) c (Logged c u) (Knows c u) unready (floods c refl) (knows c u refl)
  gate_cases (Bound c s) absent over unready floods waits knows holds =
      checked_by n.bound (is_full n l) c (Bound c s) (Holds c s) unready (floods c refl) (holds c s refl)
