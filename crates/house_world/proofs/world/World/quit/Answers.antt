use Rattle.std.proofs.Common.{sym, ◌∙◌, ◌++◌, ◌∷◌, [], subst}
use Rattle.sm_resume.specs.declared.decision.Cause.TheVariants.{Closed}
use Rattle.house_model.specs.Effects.{At, Leave, On}
use Rattle.house_model.specs.Gate.{closed}
use Rattle.house_model.specs.Sessions.{End}
use Rattle.house_world.specs.Worlds.{Did}
use Rattle.house_world.proofs.DidLemmas.{did_then}
use Rattle.house_world.proofs.world.World.quit.Goals as goal

pub returns-in-Bound : goal.returns-in-Bound
returns-in-Bound c =
    subst (λ g. Did (closed g ++ At c.args.w Leave ∷ []) 0 c.args.self.now c.leave_free.new.self) (sym (sym c.line.ensures ∙ c.in-Bound.is))
    (did_then (On c.in-Bound.session (End Closed) ∷ []) (At c.args.w Leave ∷ []) 0 0 c.args.self.now c.end_held.new.self c.leave_free.new.self
    c.end_held.ensures.did c.leave_free.ensures)
