use Rattle.jid_core.proofs.PreparationLemmas.{local_stays, domain_stays, resource_stays}
use Rattle.jid_core.proofs.laws.prepared_parts_stay.Goals as goal

pub returns : goal.returns
returns c = record { local = local_stays; domain = domain_stays; resource = resource_stays }
