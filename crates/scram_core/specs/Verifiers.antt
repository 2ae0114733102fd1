-- What the proof of a client is tried by.
use Rattle.std.specs.Prelude.{Bool, true, false}
use Rattle.scram_core.specs.declared.Mechanism.{Mechanism}
use Rattle.scram_core.specs.declared.Mechanism.TheVariants as mechanism
use Rattle.scram_core.specs.declared.verifier.KeyPair.{KeyPair}
use Rattle.scram_core.specs.declared.verifier.KeyPair.TheVariants as keys
use Rattle.scram_core.specs.declared.proof.Account.{Account}
use Rattle.scram_core.specs.declared.proof.Account.TheVariants as account

-- the mechanism of a pair of keys
abbrev pub mechanism_with : KeyPair → Mechanism
mechanism_with (keys.Sha1 stored server) = mechanism.Sha1
mechanism_with (keys.Sha256 stored server) = mechanism.Sha256

-- the account of a pair of keys
abbrev pub known_with : KeyPair → Account
known_with (keys.Sha1 stored server) = account.Sha1 stored server
known_with (keys.Sha256 stored server) = account.Sha256 stored server

-- none where the keys are nobody's
abbrev pub account_with : Bool → KeyPair → Account
account_with true pair = known_with pair
account_with false pair = account.Unknown
