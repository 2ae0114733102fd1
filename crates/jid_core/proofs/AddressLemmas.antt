-- How long a prepared address is, that it is UTF-8, and when two addresses are one.
use Rattle.std.proofs.Common.{◌≡◌, ℕ, zero, suc, ◌<◌, ◌≤◌, List, [], ◌∷◌, ◌++◌, length, true, false, ◌&&◌, bytes_eq}
use Rattle.std.proofs.Common.{Option, Some, None, IsUtf8, IsAscii, refl, ap, arith, length-append}
use Rattle.std.proofs.lemmas.Slice.Eq.{bytes_eq-Decides}
use Rattle.std.proofs.lemmas.Bool.{and_parts}
use Rattle.std.proofs.lemmas.Str.{IsUtf8-append, IsUtf8-nil, IsUtf8-from_ascii}
use Rattle.jid_core.specs.Preparation.{is_local, is_domain, is_resource}
use Rattle.jid_core.specs.Addresses.{Address, passes, is_prepared, local_text, resource_text, address_text, same_part, same_bare, same_address}
use Rattle.jid_core.proofs.PreparationLemmas.{size-resource, IsUtf8-from_resource, is_resource-from_local, is_resource-from_domain}

pub length-resource-le : (bytes : List ℕ) → is_resource bytes ≡ true → length bytes ≤ 1023
length-resource-le bytes h = omega (arith, (size-resource bytes h).1)

-- each part of a prepared address is prepared
pub record IsPrepared (a : Address) : Type 0 where
  pub local : passes is_local a.local ≡ true
  pub domain : is_domain a.domain ≡ true
  pub resource : passes is_resource a.resource ≡ true

pub IsPrepared-is_prepared : (a : Address) → is_prepared a ≡ true → IsPrepared a
IsPrepared-is_prepared a h =
    let outer = and_parts (passes is_local a.local && is_domain a.domain) (passes is_resource a.resource) h in
    let inner = and_parts (passes is_local a.local) (is_domain a.domain) outer.0 in
    record { local = inner.0; domain = inner.1; resource = outer.1 }

local-size : (part : Option (List ℕ)) → passes is_local part ≡ true → length (local_text part) ≤ 1024
local-size None h = omega arith
local-size (Some part) h = omega (arith, length-resource-le part (is_resource-from_local part h), length-append part (64 ∷ []))

resource-size : (part : Option (List ℕ)) → passes is_resource part ≡ true → length (resource_text part) ≤ 1024
resource-size None h = omega arith
resource-size (Some part) h = omega (arith, length-resource-le part h)

-- an address has at most three parts of 1023 bytes, and two signs between them
pub address_text_short : (a : Address) → is_prepared a ≡ true → length (address_text a) ≤ 3071
address_text_short a h =
    let p = IsPrepared-is_prepared a h in
    let one = local-size a.local p.local in
    let two = length-resource-le a.domain (is_resource-from_domain a.domain p.domain) in
    let three = resource-size a.resource p.resource in
    omega (arith, length-append (local_text a.local ++ a.domain) (resource_text a.resource), length-append (local_text a.local) a.domain)

one-byte : (b : ℕ) → b < 128 → IsAscii (b ∷ [])
one-byte b low zero = omega arith
one-byte b low (suc i) = omega arith

sign : (b : ℕ) → b < 128 → IsUtf8 (b ∷ [])
sign b low = IsUtf8-from_ascii (b ∷ []) (one-byte b low)

local-utf8 : (part : Option (List ℕ)) → passes is_local part ≡ true → IsUtf8 (local_text part)
local-utf8 None h = IsUtf8-nil
local-utf8 (Some part) h = IsUtf8-append part (64 ∷ []) (IsUtf8-from_resource part (is_resource-from_local part h)) (sign 64 (omega arith))

resource-utf8 : (part : Option (List ℕ)) → passes is_resource part ≡ true → IsUtf8 (resource_text part)
resource-utf8 None h = IsUtf8-nil
resource-utf8 (Some part) h = IsUtf8-append (47 ∷ []) part (sign 47 (omega arith)) (IsUtf8-from_resource part h)

-- what an address is written as is UTF-8
pub address_text_utf8 : (a : Address) → is_prepared a ≡ true → IsUtf8 (address_text a)
address_text_utf8 a h =
    let p = IsPrepared-is_prepared a h in
    IsUtf8-append (local_text a.local ++ a.domain) (resource_text a.resource)
    (IsUtf8-append (local_text a.local) a.domain (local-utf8 a.local p.local) (IsUtf8-from_resource a.domain (is_resource-from_domain a.domain p.domain)))
    (resource-utf8 a.resource p.resource)

same_part-equal : (p q : Option (List ℕ)) → same_part p q ≡ true → p ≡ q
same_part-equal None None h = refl
same_part-equal None (Some q) h = absurd (let z : false ≡ true = h in cc)
same_part-equal (Some p) None h = absurd (let z : false ≡ true = h in cc)
same_part-equal (Some p) (Some q) h = ap Some ((bytes_eq-Decides p q).0 h)

-- addresses that pass the test are one
pub same_address-equal : (a b : Address) → same_address a b ≡ true → a ≡ b
same_address-equal a b h =
    let outer = and_parts (same_bare a b) (same_part a.resource b.resource) h in
    let inner = and_parts (same_part a.local b.local) (bytes_eq a.domain b.domain) outer.0 in
    let locals = same_part-equal a.local b.local inner.0 in
    let domains = (bytes_eq-Decides a.domain b.domain).0 inner.1 in
    let resources = same_part-equal a.resource b.resource outer.1 in
    λ i. record { local = locals i; domain = domains i; resource = resources i }
