use Rattle.std.proofs.Common.{rules, ap}
use Rattle.turn_lock.specs.Views.{has_value}
use Rattle.turn_lock.proofs.Keeps.{looks}
use Rattle.turn_lock.proofs.lock.Turnstile.wait.Goals as goal

pub load-served-requires : goal.load-served-requires
load-served-requires g c = (
  search rules,
  search rules,
  looks g.T.Storied.story g.T.Storied.line g.T.Storied.root _ _ _ _ _ _ (ap (λ m. m.0.root) c.loop.invariant.waits.1)
      (ap (λ m. has_value m.0.stage) c.loop.invariant.waits.1),
)
