use Rattle.std.proofs.Common.{ℕ, List, ap₂, ◌++◌, ◌∷◌, [], ◌∙◌}
use Rattle.drill_run.proofs.Openings.{taken}
use Rattle.drill_run.proofs.opening.users.Goals as goal

pub loop-i-preserved : goal.loop-i-preserved
loop-i-preserved c =
    c.in_ok-push.ensures.items
    ∙ (ap₂ (λ (us : List (List ℕ)) (u : List ℕ). us ++ u ∷ []) c.loop-i.invariant c.in_ok-user.ensures ∙ taken c.loop-i.i c.loop-i-test.true)
