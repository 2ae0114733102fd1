-- What holds of every verdict of an event that the gate checks.
use Rattle.std.proofs.Common.{◌≡◌, ℕ, [], ◌∷◌, ◌++◌, Bool, true, false, refl}
use Rattle.sm_resume.specs.declared.decision.Cause.TheVariants.{Flood}
use Rattle.session_table.specs.declared.line.Line as stage
use Rattle.session_table.specs.declared.line.Line.TheVariants.{Empty, Fresh, Logged, Bound, Over}
use Rattle.house_model.specs.declared.event.Event.{Event}
use Rattle.house_model.specs.declared.reply.Reply.{Reply}
use Rattle.house_model.specs.declared.reply.Reply.TheVariants as reply
use Rattle.house_model.specs.States.{Line, Kept}
use Rattle.house_model.specs.Effects.{At, Close}
use Rattle.house_model.specs.Gate.{Verdict, does, only, Pass, Waits, Knows, Holds, Needs, most_answers, is_full, left, flooded, ready, gate_at}
use Rattle.house_model.specs.Steps.{body}

-- the verdict on a connection for which too many answers wait
abbrev pub flood : Kept → (w conn : ℕ) → stage.Line → Verdict
flood k w c g = does (reply.Over (Flood most_answers)) (left k g ++ At w (Close c (Flood most_answers)) ∷ [])

module _ (P : Verdict → Type 0) (k : Kept) (e : Event) (n : Needs) (w : ℕ) (l : Line) where
  checked_by : (fits full : Bool) (c : ℕ) (g : stage.Line) (pass : Pass) → ((r : Reply) → P (only r))
      → P (flood k w c g) → P (body k e pass)
      → P (body k e (ready fits (flooded full k w c g pass)))
  checked_by true true c g pass stops floods goes = floods
  checked_by true false c g pass stops floods goes = goes
  checked_by false full c g pass stops floods goes = stops reply.Unready

  -- It holds of answers that change nothing, of the flood, and of what comes of the stage.
  pub gate_leads : (g : stage.Line) → ((r : Reply) → P (only r)) → ((c : ℕ) → P (flood k w c g))
      → ((c : ℕ) → g ≡ Fresh c → P (body k e Waits))
      → ((c u : ℕ) → g ≡ Logged c u → P (body k e (Knows c u)))
      → ((c s : ℕ) → g ≡ Bound c s → P (body k e (Holds c s)))
      → P (body k e (gate_at n k w l g))
  gate_leads Empty stops floods waits knows holds = stops reply.Absent
  gate_leads (Over c cause) stops floods waits knows holds = stops (reply.Over cause)
  gate_leads (Fresh c) stops floods waits knows holds =
      checked_by n.fresh (is_full n l) c (Fresh c) Waits stops (floods c) (waits c refl)
  gate_leads (Logged c u) stops floods waits knows holds =
      checked_by n.logged (is_full n l) c (Logged c u) (Knows c u) stops (floods c) (knows c u refl)
  gate_leads (Bound c s) stops floods waits knows holds =
      checked_by n.bound (is_full n l) c (Bound c s) (Holds c s) stops (floods c) (holds c s refl)
