use Rattle.std.proofs.Common.{List, ℕ, IsTrue, subst, sym}
use Rattle.jid_core.specs.Preparation.{is_resource}
use Rattle.jid_core.proofs.PreparationLemmas.{is_resource-resource_of}
use Rattle.jid_core.proofs.part.Part.resource.Goals as goal

pub invariant_of-result : goal.invariant_of-result
invariant_of-result c = subst (λ (b : List ℕ). IsTrue (is_resource b)) (sym c.of.ensures)
    (is_resource-resource_of c.args.bytes.now _ c.in_ok-prepared_resource.ensures.ok)
