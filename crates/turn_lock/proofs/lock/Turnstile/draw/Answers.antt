use Rattle.std.proofs.Common.{rules, arith, ◌≡◌, length, ap, ◌∙◌}
use Rattle.turn_lock.proofs.Keeps.{peeks, draws}
use Rattle.turn_lock.proofs.lock.Turnstile.draw.Goals as goal

pub load-requires : goal.load-requires
load-requires g c =
    let idle = c.requires.idle.1 in
    let size : length c.args.pass.now.seat.me.0.claims ≡ 1 = ap (λ m. length m.0.claims) idle in (
      search rules,
      search rules,
      peeks g.T.Storied.story g.T.Storied.line g.T.Storied.root _ _ _ _ _ _ (ap (λ m. m.0.root) idle) (ap (λ m. m.0.stage) idle)
          (omega arith),
    )

pub fetch_add-requires : goal.fetch_add-requires
fetch_add-requires g c =
    let leave = (c.load.ensures.2.0 (omega arith)).0 in (
      search rules,
      search rules,
      draws g.T.Storied.story g.T.Storied.line g.T.Storied.root _ _ _ _ _ _ (ap (λ m. m.0.root) leave
          ∙ ap (λ m. m.0.root) c.requires.idle.1) (ap (λ m. m.0.stage) leave),
    )
