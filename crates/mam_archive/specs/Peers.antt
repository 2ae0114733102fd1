-- By what of their addresses peers are told apart, and the hashes by which their rows are found.
use Rattle.std.specs.Prelude.{ℕ, List, [], ◌∷◌, Option, is_some, unwrap_or, if◌then◌else◌}
use Rattle.std.specs.Hash.DefaultHasher as sip
use Rattle.hash_keys.specs.Keyed.{seeded}
use Rattle.hash_keys.specs.declared.key.HashKey.{HashKey}
use Rattle.jid_core.specs.Addresses.{Address, bare}
use Rattle.mam_archive.specs.declared.peers.Extent.{Extent}
use Rattle.mam_archive.specs.declared.peers.Extent.TheVariants.{Bare, Full}

-- XEP-0313, 4.1.1: a bare address is that of each peer with it, a full one of the equal peer alone
abbrev pub extent_of : Address → Extent
extent_of asked = if is_some asked.resource then Full else Bare

abbrev pub face : Extent → Address → Address
face Bare a = bare a
face Full a = a

-- the hash of the local part, the domain and the resource, a slash after each but the last
unfoldable pub address_hash : HashKey → Option (List ℕ) → List ℕ → List ℕ → ℕ
address_hash hash_key local domain resource =
    let first = sip.write (sip.write (seeded hash_key) (unwrap_or local [])) (47 ∷ []) in
    let second = sip.write (sip.write first domain) (47 ∷ []) in
    sip.finish (sip.write second resource)

-- the hash of what counts of an address
abbrev pub key : HashKey → Extent → Address → ℕ
key hash_key Bare a = address_hash hash_key a.local a.domain []
key hash_key Full a = address_hash hash_key a.local a.domain (unwrap_or a.resource [])
