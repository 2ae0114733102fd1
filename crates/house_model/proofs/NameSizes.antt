-- How long the names of users are, where addresses are short.
use Rattle.std.proofs.Common.{◌≡◌, ◌⊎◌, inl, inr, ℕ, ◌≤◌, List, [], ◌∷◌, ◌++◌, length, Option, Some, None, Result, Ok, Err, Bool}
use Rattle.std.proofs.Common.{true, false, refl, ap, subst, arith, bytes_eq, length-append, if◌then◌else◌, ◌&&◌}
use Rattle.std.specs.Prelude.{IfSome}
use Rattle.std.proofs.lemmas.Option.{same_Some}
use Rattle.jid_core.specs.Addresses.{Address, address_of, address_text, domain_in, is_prepared, joined, local_in}
use Rattle.jid_core.specs.Addresses.{local_text, part_of, passes, resource_text, some_of}
use Rattle.jid_core.specs.Cuts.{after, before}
use Rattle.jid_core.specs.Preparation.{domain_of, is_domain, is_local, is_resource, local_of, resource_of}
use Rattle.jid_core.specs.declared.fault.JidFault.{JidFault}
use Rattle.jid_core.proofs.AddressLemmas.{address_text_short}
use Rattle.jid_core.proofs.PreparationLemmas.{is_domain-domain_of, is_local-local_of, is_resource-resource_of}
use Rattle.stanza_router.specs.Places.{at_server, at_service, place_of, service_domain}
use Rattle.stanza_router.specs.declared.places.Place.TheVariants.{Account, User, Foreign}
use Rattle.house_model.specs.Routing.{user_in}

-- a part is no longer than its address
pub local-le : (a : Address) (user : List ℕ) → a.local ≡ Some user → length user ≤ length (address_text a)
local-le a user is =
    omega (
      arith,
      ap (λ (part : Option (List ℕ)). length (local_text part)) is,
      length-append user (64 ∷ []),
      length-append (local_text a.local ++ a.domain) (resource_text a.resource),
      length-append (local_text a.local) a.domain,
    )

-- the user of a place is the sender, or is named by the address
server-user : (own local : List ℕ) (resource : Option (List ℕ)) (user : List ℕ)
    → user_in own (at_server own (Some local) resource) ≡ Some user → (own ≡ user) ⊎ (local ≡ user)
server-user own local (Some r) user is = inr (same_Some local user is)
server-user own local None user is = by (bytes_eq local own) is
  where
    by : (b : Bool) → user_in own (if b then Account else User local) ≡ Some user → (own ≡ user) ⊎ (local ≡ user)
    by true here = inl (same_Some own user here)
    by false here = inr (same_Some local user here)

server-name : (own : List ℕ) (local resource : Option (List ℕ)) (user : List ℕ)
    → user_in own (at_server own local resource) ≡ Some user → (own ≡ user) ⊎ (local ≡ Some user)
server-name own None resource user is = absurd (cc)
server-name own (Some local) resource user is = by (server-user own local resource user is)
  where
    by : (own ≡ user) ⊎ (local ≡ user) → (own ≡ user) ⊎ (Some local ≡ Some user)
    by (inl same) = inl same
    by (inr same) = inr (ap Some same)

service-name : (own : List ℕ) (local resource : Option (List ℕ)) (user : List ℕ)
    → user_in own (at_service local resource) ≡ Some user → (own ≡ user) ⊎ (local ≡ Some user)
service-name own None resource user is = absurd (cc)
service-name own (Some room) None user is = absurd (cc)
service-name own (Some room) (Some nick) user is = absurd (cc)

place-name : (own domain : List ℕ) (to : Address) (user : List ℕ)
    → user_in own (place_of own domain (Some to)) ≡ Some user → (own ≡ user) ⊎ (to.local ≡ Some user)
place-name own domain to user is = by (bytes_eq to.domain domain) (bytes_eq to.domain (service_domain domain)) is
  where
    by : (a b : Bool)
        → user_in own (if a then at_server own to.local to.resource else if b then at_service to.local to.resource else Foreign) ≡ Some user
        → (own ≡ user) ⊎ (to.local ≡ Some user)
    by true b here = server-name own to.local to.resource user here
    by false true here = service-name own to.local to.resource user here
    by false false here = absurd (cc)

pub user-short : (own domain : List ℕ) (to : Option Address) (user : List ℕ) → length own ≤ 3071
    → IfSome to (λ a. length (address_text a) ≤ 3071)
    → user_in own (place_of own domain to) ≡ Some user → length user ≤ 3071
user-short own domain None user mine short is = omega (arith, mine, ap length (same_Some own user is))
user-short own domain (Some to) user mine short is = by (place-name own domain to user is)
  where
    by : (own ≡ user) ⊎ (to.local ≡ Some user) → length user ≤ 3071
    by (inl same) = omega (arith, mine, ap length same)
    by (inr named) = omega (arith, short, local-le to user named)

-- an address that was read is short
part-prepared : (prepare : List ℕ → Result (List ℕ) JidFault) (test : List ℕ → Bool)
    → ((b p : List ℕ) → prepare b ≡ Ok p → test p ≡ true)
    → (o part : Option (List ℕ)) → part_of prepare o ≡ Ok part → passes test part ≡ true
part-prepared prepare test each None None is = refl
part-prepared prepare test each None (Some part) is = absurd (cc)
part-prepared prepare test each (Some b) part is = by (prepare b) refl is
  where
    by : (r : Result (List ℕ) JidFault) → prepare b ≡ r → some_of r ≡ Ok part → passes test part ≡ true
    by (Err fault) at here = absurd (cc)
    by (Ok p) at here =
        let same : Some p ≡ part = cc in
        subst (λ (q : Option (List ℕ)). passes test q ≡ true) same (each b p at)

and_both : (a b : Bool) → a ≡ true → b ≡ true → a && b ≡ true
and_both true true one two = refl
and_both true false one two = two
and_both false b one two = one

joined-prepared : (l : Result (Option (List ℕ)) JidFault) (d : Result (List ℕ) JidFault) (r : Result (Option (List ℕ)) JidFault) (a : Address)
    → ((part : Option (List ℕ)) → l ≡ Ok part → passes is_local part ≡ true) → ((part : List ℕ) → d ≡ Ok part → is_domain part ≡ true)
    → ((part : Option (List ℕ)) → r ≡ Ok part → passes is_resource part ≡ true)
    → joined l d r ≡ Ok a → is_prepared a ≡ true
joined-prepared (Err fault) d r a one two three is = absurd (cc)
joined-prepared (Ok local) (Err fault) r a one two three is = absurd (cc)
joined-prepared (Ok local) (Ok domain) (Err fault) a one two three is = absurd (cc)
joined-prepared (Ok local) (Ok domain) (Ok resource) a one two three is =
    let same : record { local = local; domain = domain; resource = resource } ≡ a = cc in
    subst (λ (x : Address). is_prepared x ≡ true) same
    (and_both (passes is_local local && is_domain domain) (passes is_resource resource)
    (and_both (passes is_local local) (is_domain domain) (one local refl) (two domain refl)) (three resource refl))

pub read-short : (text : List ℕ) (a : Address) → address_of text ≡ Ok a → length (address_text a) ≤ 3071
read-short text a is =
    address_text_short a
    (joined-prepared (part_of local_of (local_in (before 47 text))) (domain_of (domain_in (before 47 text))) (part_of resource_of (after 47 text)) a
    (λ part at. part-prepared local_of is_local (λ b p one. is_local-local_of b p one) (local_in (before 47 text)) part at)
    (λ part at. is_domain-domain_of (domain_in (before 47 text)) part at)
    (λ part at. part-prepared resource_of is_resource (λ b p one. is_resource-resource_of b p one) (after 47 text) part at)
    is)
