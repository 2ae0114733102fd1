use Rattle.turn_lock.specs.Passes.{IsIdle}
use Rattle.turn_trials.proofs.turns.count_on.Given as goal

abbrev pub invariant-loop-n : goal.invariant-loop-n
invariant-loop-n g l = IsIdle (λ e. e.0) (λ t. t.base) l.fn.lock l.pass
