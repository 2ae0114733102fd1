use Rattle.std.proofs.Common.{rules, ◌∷◌, ap, ◌∙◌, sym, Some}
use Rattle.atomic_table.specs.Table.{rest}
use Rattle.turn_lock.proofs.lock.Turnstile.enter.Goals as goal

pub exchange-requires : goal.exchange-requires
exchange-requires g c =
    let held = c.wait.ensures.holds in
    let out = ap (λ m. m.1) held.1.1 in
    (search rules, (Some held.0, out ∙ ap (λ l. (0, Some held.0) ∷ rest l) (sym out)))
