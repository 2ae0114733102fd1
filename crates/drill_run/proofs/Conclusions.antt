-- A drill that has come to its end is told by its line, and the promises hold of it.
use Rattle.std.proofs.Common.{◌≡◌, ℕ, List, ap, ◌∙◌}
use Rattle.house_model.specs.States.{Kept}
use Rattle.house_model.proofs.SafeLaws.{safe}
use Rattle.house_model.proofs.Turns.{turns-counted}
use Rattle.replay_script.specs.Drills.{house}
use Rattle.drill_run.specs.declared.counts.Counts.{Counts}
use Rattle.drill_run.specs.Courses.{Ended, counts_of, line_of_counts}
use Rattle.drill_run.specs.Endings.{Drilled}

pub drilled : (n key : ℕ) (k : Kept) (counts : Counts) (out : List ℕ) → Ended n key k counts → out ≡ line_of_counts n counts k.head.turns
    → Drilled n key out
drilled n key k counts out e is = record {
  history = e.history;
  legal = e.stands.legal;
  drill = e.drill;
  safe = safe house e.history e.stands.starts e.stands.legal;
  line =
      is
      ∙ (ap (λ (c : Counts). line_of_counts n c k.head.turns) e.counted
      ∙ ap (λ turns. line_of_counts n (counts_of e.history) turns) (turns-counted house e.history k e.stands));
}
