-- Hashes by a key.
use Rattle.std.specs.Prelude.{ℕ, List, replicate}
use Rattle.std.specs.Hash.DefaultHasher as sip
use Rattle.std.specs.declared.hash.DefaultHasher.{DefaultHasher}
use Rattle.hash_keys.specs.declared.key.HashKey.{HashKey}
use Rattle.hash_keys.specs.declared.words.WordHasher.{WordHasher}

-- a hasher that has read these bytes
unfoldable pub key_of : List ℕ → HashKey
key_of bytes = record { started = sip.write sip.initial bytes }

-- sixteen zeros
abbrev pub fixed_key : HashKey
fixed_key = key_of (replicate 16 0)

-- the hasher that has read the key
unfoldable pub seeded : HashKey → DefaultHasher
seeded key = key.started

-- the hash of some bytes
unfoldable pub hashed : HashKey → List ℕ → ℕ
hashed key bytes = sip.finish (sip.write (seeded key) bytes)

-- the hasher of a map's keys
unfoldable pub begun : HashKey → WordHasher
begun key = record { words = seeded key; rest = 0; count = 0 }
