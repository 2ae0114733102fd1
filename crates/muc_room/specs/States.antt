-- A room as it is after a change (XEP-0045, 5.1, 5.2 and 7.14).
use Rattle.std.specs.Prelude.{ℕ, List, [], ◌∷◌, ◌++◌, map, Bool, true, false, not, if◌then◌else◌}
use Rattle.std.specs.List.{filter, list_any}
use Rattle.jid_core.specs.Addresses.{Address, same_bare}
use Rattle.stanza_model.specs.declared.room.Affiliated.{Affiliated}
use Rattle.stanza_model.specs.declared.room.Affiliation.{Affiliation}
use Rattle.stanza_model.specs.declared.room.Affiliation.TheVariants.{Owner, Admin, Member, Neither, Outcast}
use Rattle.stanza_model.specs.declared.room.Occupant.{Occupant}
use Rattle.stanza_model.specs.declared.room.Role.{Role}
use Rattle.stanza_model.specs.declared.room.Room.{Room}
use Rattle.muc_room.specs.Seats.{has_seat}

-- An affiliation is set.

-- XEP-0045, 5.2: a user without an affiliation isn't listed
abbrev pub is_listed : Affiliation → Bool
is_listed Owner = true
is_listed Admin = true
is_listed Member = true
is_listed Neither = false
is_listed Outcast = true

-- the affiliations of other users than that of this address
abbrev pub others : Address → List Affiliated → List Affiliated
others address known = filter (λ x. not (same_bare x.address address)) known

abbrev pub listed_as : Address → Affiliation → Affiliated
listed_as address a = record { address = address; affiliation = a }

-- what was set last stands last
abbrev pub with_affiliation : Address → Affiliation → List Affiliated → List Affiliated
with_affiliation address a known = others address known ++ (if is_listed a then listed_as address a ∷ [] else [])

-- whether an occupant is of the user of this address
abbrev pub is_of : Address → Occupant → Bool
is_of address o = list_any (λ seat. same_bare seat.address address) o.seats

abbrev pub affiliated_if : Address → Affiliation → Occupant → Occupant
affiliated_if address a o = if is_of address o then record o { affiliation = a } else o

-- the user of this bare address has this affiliation, and so has each occupant that is of it
abbrev pub set_affiliation : Address → Affiliation → Room → Room
set_affiliation address a room = record room {
  affiliations = with_affiliation address a room.affiliations;
  occupants = map (affiliated_if address a) room.occupants;
}

-- A role is set.

abbrev pub role_if : ℕ → Role → Occupant → Occupant
role_if session role o = if has_seat session o then record o { role = role } else o

-- the occupant that this session is has this role
abbrev pub set_role : ℕ → Role → Room → Room
set_role session role room = record room { occupants = map (role_if session role) room.occupants }

-- An occupant is removed.

-- the occupant that this session is isn't in the room any more, by none of its sessions
abbrev pub without_occupant : ℕ → Room → Room
without_occupant session room = record room { occupants = filter (λ o. not (has_seat session o)) room.occupants }
