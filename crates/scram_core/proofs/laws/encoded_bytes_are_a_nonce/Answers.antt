use Rattle.scram_core.proofs.Nonces.{encoding-nonce}
use Rattle.scram_core.proofs.laws.encoded_bytes_are_a_nonce.Goals as goal

pub returns : goal.returns
returns c = encoding-nonce
