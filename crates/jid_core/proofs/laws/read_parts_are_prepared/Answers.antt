use Rattle.jid_core.proofs.PreparationLemmas.{is_local-local_of, is_domain-domain_of, is_resource-resource_of}
use Rattle.jid_core.proofs.laws.read_parts_are_prepared.Goals as goal

pub returns : goal.returns
returns c = record { local = is_local-local_of; domain = is_domain-domain_of; resource = is_resource-resource_of }
