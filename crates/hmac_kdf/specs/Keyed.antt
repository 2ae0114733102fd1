-- What the states of a keyed hash hold.
use Rattle.std.specs.Prelude.{ℕ, List}
use Rattle.sha1.specs.Sha1.{Holds, sha1}
use Rattle.sha2.specs.Hashers.{Holds256}
use Rattle.sha2.specs.Sha256.{sha256}
use Rattle.hmac_kdf.specs.Hmac.{block_of, masked}
use Rattle.hmac_kdf.specs.declared.keyed_sha1.KeyedSha1.{KeyedSha1}
use Rattle.hmac_kdf.specs.declared.keyed_sha256.KeyedSha256.{KeyedSha256}

-- The states after this key's block XOR ipad, and after its block XOR opad.
pub record IsKeyed1 (states : KeyedSha1) (key : List ℕ) : Type 0 where
  pub inner : Holds states.inner (masked 0x36 (block_of sha1 key))
  pub outer : Holds states.outer (masked 0x5C (block_of sha1 key))

-- The same over SHA-256.
pub record IsKeyed256 (states : KeyedSha256) (key : List ℕ) : Type 0 where
  pub inner : Holds256 states.inner (masked 0x36 (block_of sha256 key))
  pub outer : Holds256 states.outer (masked 0x5C (block_of sha256 key))
