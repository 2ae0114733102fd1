use Rattle.scram_core.proofs.Nonces.{both-sides}
use Rattle.scram_core.proofs.laws.a_nonce_is_of_both_sides.Goals as goal

pub returns : goal.returns
returns c = both-sides
