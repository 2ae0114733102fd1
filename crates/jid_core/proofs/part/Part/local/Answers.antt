use Rattle.std.proofs.Common.{List, ℕ, IsTrue, subst, sym}
use Rattle.jid_core.specs.Preparation.{is_local, is_resource}
use Rattle.jid_core.proofs.PreparationLemmas.{is_local-local_of, is_resource-from_local}
use Rattle.jid_core.proofs.part.Part.local.Goals as goal

pub invariant_of-result : goal.invariant_of-result
invariant_of-result c = subst (λ (b : List ℕ). IsTrue (is_resource b)) (sym c.of.ensures)
    (is_resource-from_local _ (is_local-local_of c.args.bytes.now _ c.in_ok-prepared_local.ensures.ok))

pub returns-clause-prepared : goal.returns-clause-prepared
returns-clause-prepared c = subst (λ (b : List ℕ). IsTrue (is_local b)) (sym c.of.ensures)
    (is_local-local_of c.args.bytes.now _ c.in_ok-prepared_local.ensures.ok)
