-- Which rooms the house finds, and what the rules on rooms read of them (XEP-0045, 6 and 7). All is read off what the code keeps.
use Rattle.std.specs.Prelude.{ℕ, ◌+◌, nat_lt, List, [], ◌∷◌, map, length, not, Option, Some, None, if◌then◌else◌}
use Rattle.std.specs.List.{filter}
use Rattle.std.specs.Option.{option_and_then}
use Rattle.jid_core.specs.Addresses.{Address}
use Rattle.stanza_tree.specs.declared.node.Element.{Element}
use Rattle.stanza_model.specs.declared.here.Here.{Here}
use Rattle.stanza_model.specs.declared.room.Seat.{Seat}
use Rattle.stanza_router.specs.declared.listed.Listed.{Listed}
use Rattle.contact_table.specs.Books.{local_user}
use Rattle.muc_room.specs.Seats.{occupant_of, seat_of}
use Rattle.muc_room.specs.declared.entering.Numbers.{Numbers}
use Rattle.muc_owner.specs.Invitations.{invitation_of}
use Rattle.muc_owner.specs.Inviting.{x_in}
use Rattle.muc_service.specs.Rooms.{Hosted, Rooms, entered_by, hosted_at, is_in}
use Rattle.house_model.specs.Presences.{available_of}
use Rattle.house_model.specs.States.{World}
use Rattle.house_model.specs.Traffic.{KeptTraffic}

-- the room of an address, whatever the nick
abbrev pub room_for : Rooms → Option Address → Option Hosted
room_for rooms None = None
room_for rooms (Some to) = hosted_at to rooms

-- XEP-0045, 6.3: the rooms that are told of, in the order of making; one that isn't configured yet isn't among them
abbrev pub listed_as : Hosted → Listed
listed_as h = record { address = h.room.address; title = h.room.config.title; config = h.room.config }

abbrev pub listed : Rooms → List Listed
listed rooms = map listed_as (filter (λ h. not h.room.locked) rooms.hosted)

-- what the rules on entering a room read of the others
abbrev pub numbers_for : Rooms → (session : ℕ) → Numbers
numbers_for rooms s = record { rooms = length rooms.hosted; mine = entered_by s rooms; next_room = rooms.made + 1; next_stay = rooms.stays + 1 }

-- XEP-0045, 7.8.2: the available sessions of the user of this server who is invited, or is told that an invitation is declined

abbrev pub available_if : World KeptTraffic → Option (List ℕ) → List Here
available_if world None = []
available_if world (Some user) = available_of world user

abbrev pub called : (domain : List ℕ) → World KeptTraffic → Element → List Here
called domain world e =
    available_if world (option_and_then (λ i. local_user domain i.address) (option_and_then invitation_of (x_in e)))

-- The rooms that a session is in, in the order of entering.

-- the number of its stay; 0 is nobody's
abbrev pub stay_by : Option Seat → ℕ
stay_by None = 0
stay_by (Some seat) = seat.stay

abbrev pub stay_in : (session : ℕ) → Hosted → ℕ
stay_in s h = stay_by (option_and_then (λ o. seat_of s o.seats) (occupant_of s h.room.occupants))

-- a room before those that it entered later
abbrev pub placed : (session : ℕ) → Hosted → List Hosted → List Hosted
placed s h [] = h ∷ []
placed s h (x ∷ more) = if nat_lt (stay_in s x) (stay_in s h) then x ∷ placed s h more else h ∷ x ∷ more

abbrev pub in_order : (session : ℕ) → List Hosted → List Hosted
in_order s [] = []
in_order s (h ∷ more) = placed s h (in_order s more)

abbrev pub rooms_of : (session : ℕ) → Rooms → List Hosted
rooms_of s rooms = in_order s (filter (is_in s) rooms.hosted)
