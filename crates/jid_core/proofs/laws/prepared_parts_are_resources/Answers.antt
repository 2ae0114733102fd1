use Rattle.jid_core.proofs.PreparationLemmas.{is_resource-from_local, is_resource-from_domain}
use Rattle.jid_core.proofs.laws.prepared_parts_are_resources.Goals as goal

pub returns : goal.returns
returns c = record { local = is_resource-from_local; domain = is_resource-from_domain }
