use Rattle.scram_core.proofs.Octets.{made-proof}
use Rattle.scram_core.proofs.laws.a_proof_is_made_of_the_client_key.Goals as goal

pub returns : goal.returns
returns c = made-proof
