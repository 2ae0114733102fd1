-- Addresses as their parts: read, compared and written (RFC 7622, 3.1).
use Rattle.std.specs.Prelude.{ℕ, List, ◌∷◌, [], ◌++◌, ◌&&◌, Bool, true, false, bytes_eq, Option, Some, None, Result, Ok, Err, unwrap_or}
use Rattle.std.specs.Option.{option_map}
use Rattle.jid_core.specs.Cuts.{before, after}
use Rattle.jid_core.specs.Preparation.{is_local, is_domain, is_resource, local_of, domain_of, resource_of}
use Rattle.jid_core.specs.declared.fault.JidFault.{JidFault}

pub record Address : Type 0 where
  pub local : Option (List ℕ)
  pub domain : List ℕ
  pub resource : Option (List ℕ)

abbrev pub passes : (List ℕ → Bool) → Option (List ℕ) → Bool
passes test None = true
passes test (Some part) = test part

-- each part is prepared for its place
abbrev pub is_prepared : Address → Bool
is_prepared a = passes is_local a.local && is_domain a.domain && passes is_resource a.resource

abbrev pub bare : Address → Address
bare a = record a { resource = None }

abbrev pub same_part : Option (List ℕ) → Option (List ℕ) → Bool
same_part None None = true
same_part None (Some q) = false
same_part (Some p) None = false
same_part (Some p) (Some q) = bytes_eq p q

abbrev pub same_bare : Address → Address → Bool
same_bare a b = same_part a.local b.local && bytes_eq a.domain b.domain

abbrev pub same_address : Address → Address → Bool
same_address a b = same_bare a b && same_part a.resource b.resource

abbrev pub local_text : Option (List ℕ) → List ℕ
local_text None = []
local_text (Some part) = part ++ 64 ∷ []

abbrev pub resource_text : Option (List ℕ) → List ℕ
resource_text None = []
resource_text (Some part) = 47 ∷ part

-- `local@domain/resource`
abbrev pub address_text : Address → List ℕ
address_text a = local_text a.local ++ a.domain ++ resource_text a.resource

-- what stands before the first `@`, where there is one, and the domain beside it
abbrev pub local_in : List ℕ → Option (List ℕ)
local_in rest = option_map (λ _. before 64 rest) (after 64 rest)

abbrev pub domain_in : List ℕ → List ℕ
domain_in rest = unwrap_or (after 64 rest) rest

abbrev pub some_of : Result (List ℕ) JidFault → Result (Option (List ℕ)) JidFault
some_of (Ok part) = Ok (Some part)
some_of (Err fault) = Err fault

abbrev pub part_of : (List ℕ → Result (List ℕ) JidFault) → Option (List ℕ) → Result (Option (List ℕ)) JidFault
part_of prepare None = Ok None
part_of prepare (Some bytes) = some_of (prepare bytes)

-- the parts in their order: the first fault is that of the address
abbrev pub joined : Result (Option (List ℕ)) JidFault → Result (List ℕ) JidFault → Result (Option (List ℕ)) JidFault → Result Address JidFault
joined (Err fault) domain resource = Err fault
joined (Ok local) (Err fault) resource = Err fault
joined (Ok local) (Ok domain) (Err fault) = Err fault
joined (Ok local) (Ok domain) (Ok resource) = Ok (record { local = local; domain = domain; resource = resource })

-- the resource is all after the first `/`, and the local part all before the first `@` of the rest
abbrev pub address_of : List ℕ → Result Address JidFault
address_of bytes = joined (part_of local_of (local_in (before 47 bytes))) (domain_of (domain_in (before 47 bytes))) (part_of resource_of (after 47 bytes))
