use Rattle.std.proofs.Common.{List, ℕ, IsTrue, subst, sym}
use Rattle.jid_core.specs.Preparation.{is_domain, is_resource}
use Rattle.jid_core.proofs.PreparationLemmas.{is_domain-domain_of, is_resource-from_domain}
use Rattle.jid_core.proofs.part.Part.domain.Goals as goal

pub invariant_of-result : goal.invariant_of-result
invariant_of-result c = subst (λ (b : List ℕ). IsTrue (is_resource b)) (sym c.of.ensures)
    (is_resource-from_domain _ (is_domain-domain_of c.args.bytes.now _ c.in_ok-prepared_domain.ensures.ok))

pub returns-clause-prepared : goal.returns-clause-prepared
returns-clause-prepared c = subst (λ (b : List ℕ). IsTrue (is_domain b)) (sym c.of.ensures)
    (is_domain-domain_of c.args.bytes.now _ c.in_ok-prepared_domain.ensures.ok)
