-- Who is in a room, and what it is to the room (XEP-0045, 5 and 7.2).
use Rattle.std.specs.Prelude.{ℕ, ◌==◌, List, [], ◌∷◌, map, flat_map, sum, length, Bool, Option, Some, None, bytes_eq, not, ◌&&◌}
use Rattle.std.specs.List.{find, list_any}
use Rattle.jid_core.specs.Addresses.{Address, same_bare}
use Rattle.stanza_model.specs.declared.here.Here.{Here}
use Rattle.stanza_model.specs.declared.room.Affiliated.{Affiliated}
use Rattle.stanza_model.specs.declared.room.Affiliation.{Affiliation}
use Rattle.stanza_model.specs.declared.room.Affiliation.TheVariants.{Neither}
use Rattle.stanza_model.specs.declared.room.Occupant.{Occupant}
use Rattle.stanza_model.specs.declared.room.Room.{Room}
use Rattle.stanza_model.specs.declared.room.Seat.{Seat}

abbrev pub has_seat : ℕ → Occupant → Bool
has_seat session o = list_any (λ seat. seat.session == session) o.seats

-- the occupant that a session is
abbrev pub occupant_of : ℕ → List Occupant → Option Occupant
occupant_of session occupants = find (has_seat session) occupants

abbrev pub has_nick : List ℕ → Occupant → Bool
has_nick nick o = bytes_eq o.nick nick

-- the occupant that has a nick
abbrev pub holder_of : List ℕ → List Occupant → Option Occupant
holder_of nick occupants = find (has_nick nick) occupants

abbrev pub affiliation_by : Option Affiliated → Affiliation
affiliation_by None = Neither
affiliation_by (Some x) = x.affiliation

abbrev pub known_of : Address → List Affiliated → Option Affiliated
known_of address known = find (λ x. same_bare x.address address) known

-- XEP-0045, 5.2: an affiliation is that of a bare address
abbrev pub affiliation_of : Address → List Affiliated → Affiliation
affiliation_of address known = affiliation_by (known_of address known)

abbrev pub affiliation_in : Room → Here → Affiliation
affiliation_in room who = affiliation_of who.address room.affiliations

abbrev pub sessions_of : Occupant → List ℕ
sessions_of o = map (λ seat. seat.session) o.seats

-- the address of one of these sessions
abbrev pub address_by : Address → Option Seat → Address
address_by other None = other
address_by other (Some seat) = seat.address

abbrev pub seat_of : ℕ → List Seat → Option Seat
seat_of session seats = find (λ seat. seat.session == session) seats

-- the address of the session whose presence is shown: it has a seat, so that no other address is needed
abbrev pub spoken_from : Address → Occupant → Address
spoken_from other o = address_by other (seat_of o.spoke o.seats)

-- how many sessions are in the room
abbrev pub seat_count : List Occupant → ℕ
seat_count occupants = sum (map (λ o. length o.seats) occupants)
