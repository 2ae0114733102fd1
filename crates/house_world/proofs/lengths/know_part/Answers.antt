use Rattle.jid_core.proofs.AddressLemmas.{length-resource-le}
use Rattle.house_world.proofs.lengths.know_part.Goals as goal

pub returns : goal.returns
returns c = length-resource-le c.args.part.now c.bytes.ensures.prepared
