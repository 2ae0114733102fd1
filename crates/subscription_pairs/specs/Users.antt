-- Two users of the server, and what each is to the other by their rosters (RFC 6121, 2.1 and 3).
use Rattle.std.specs.Prelude.{ℕ, List, [], Bool, true, false, Option, Some, None, unwrap_or}
use Rattle.std.specs.List.{find}
use Rattle.jid_core.specs.Addresses.{Address, same_address}
use Rattle.stanza_model.specs.Subscriptions.{state}
use Rattle.stanza_model.specs.declared.here.Here.{Here}
use Rattle.stanza_model.specs.declared.shared.Contact.{Contact}
use Rattle.stanza_model.specs.declared.shared.Side.{Side}
use Rattle.stanza_model.specs.declared.shared.Subscription.{Subscription}
use Rattle.stanza_model.specs.declared.shared.Subscription.TheVariants.{Neither, To, From, Both}

-- a user: the bare address, the contacts of its roster, its sessions that go on, and the presence of each that is available
pub record User : Type 0 where
  pub bare : Address
  pub contacts : List Contact
  pub sessions : List Here
  pub presences : List (List ℕ)

-- an account's address has a local part
abbrev pub user_of : Address → List ℕ
user_of address = unwrap_or address.local address.domain

abbrev pub contact_of : List Contact → Address → Option Contact
contact_of contacts address = find (λ c. same_address c.address address) contacts

-- RFC 6121, 2.1.2.5: what the state of a contact says
abbrev pub sees_by : Subscription → Bool
sees_by To = true
sees_by Both = true
sees_by From = false
sees_by Neither = false

abbrev pub seen_by : Subscription → Bool
seen_by From = true
seen_by Both = true
seen_by To = false
seen_by Neither = false

abbrev pub asked_by : Option Contact → Bool
asked_by None = false
asked_by (Some c) = c.asked

-- who isn't a contact isn't seen, and doesn't see
abbrev pub side_in : Option Contact → Option Contact → Side
side_in None other = record { sees = false; seen = false; asked = false; asked_by = asked_by other; listed = false }
side_in (Some c) other =
    record { sees = sees_by c.subscription; seen = seen_by c.subscription; asked = c.asked; asked_by = asked_by other; listed = true }

-- what a is to b, by both rosters
abbrev pub side_of : User → User → Side
side_of a b = side_in (contact_of a.contacts b.bare) (contact_of b.contacts a.bare)

-- a new contact has no name and no groups
abbrev pub new_contact : Address → Side → Contact
new_contact address side = record { address = address; name = []; groups = []; subscription = state side; asked = side.asked }

-- the contact of that address as it stands by this side
abbrev pub contact_by : Address → Side → Option Contact → Contact
contact_by address side None = new_contact address side
contact_by address side (Some c) = record c { subscription = state side; asked = side.asked }
