-- The hash by which the sessions of a user are found.
use Rattle.std.specs.Prelude.{ℕ, List, [], Option, unwrap_or}
use Rattle.hash_keys.specs.Keyed.{hashed}
use Rattle.hash_keys.specs.declared.key.HashKey.{HashKey}

-- that of the local part of the user's address, by a key
abbrev pub user_hash : HashKey → Option (List ℕ) → ℕ
user_hash key local = hashed key (unwrap_or local [])
