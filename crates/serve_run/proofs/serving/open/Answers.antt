use Rattle.std.proofs.Common.{ℕ, List, [], ◌∷◌, inl, inr, subst, sym}
use Rattle.outside.specs.Tapes.{Tells}
use Rattle.serve_run.proofs.Running.{when_err}
use Rattle.serve_run.proofs.serving.open.Goals as goal

pub returns-in_err-secret-clause-unused : goal.returns-in_err-secret-clause-unused
returns-in_err-secret-clause-unused g c = when_err c.from_residual.result _ (inl c.in_err-secret.ensures.nothing)

pub returns-in_err-accounts-clause-unused : goal.returns-in_err-accounts-clause-unused
returns-in_err-accounts-clause-unused g c =
    when_err c.from_residual-in_err-accounts.result _ (inr (c.in_ok-secret.secret, c.in_ok-secret.ensures.long, c.in_ok-secret.ensures.drew))

pub returns-in_err-house-clause-unused : goal.returns-in_err-house-clause-unused
returns-in_err-house-clause-unused g c =
    when_err c.from_residual-in_err-house.result _ (inr (c.in_ok-secret.secret, c.in_ok-secret.ensures.long, c.in_ok-secret.ensures.drew))

pub returns-clause-drew : goal.returns-clause-drew
returns-clause-drew g c =
    subst (λ (secret : List ℕ). Tells (List ℕ) (g.P.Ports.drawn c.args.ports.now) (g.P.Ports.drawn c.secret_of.new.ports) (secret ∷ []))
    (sym c.in_ok-accounts.ensures.secret) c.in_ok-secret.ensures.drew
