use Rattle.jid_core.proofs.ReadLemmas.{address_of-address_text}
use Rattle.jid_core.proofs.laws.written_addresses_are_read.Goals as goal

pub returns : goal.returns
returns c = address_of-address_text
