-- Eighteen random bytes in base64 are a nonce.
use Rattle.std.proofs.Common.{◌≡◌, ◌≤◌, ◌<◌, ℕ, List, length, IsTrue, arith, sym}
use Rattle.base64.specs.GeneralPurpose.{IsBytes}
use Rattle.scram_core.specs.Login.{base64_of, is_server_nonce}
use Rattle.scram_core.proofs.Nonces.{encoding-nonce}

pub dice_nonce : (dice : List ℕ) → IsBytes dice → length dice ≡ 18 → IsTrue (is_server_nonce (base64_of dice))
dice_nonce dice are long = encoding-nonce dice are (omega (arith, long)) (omega (arith, long))
