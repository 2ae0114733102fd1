-- The rooms that the service hosts, and what each effect makes of them (XEP-0045, 5 to 10).
use Rattle.std.specs.Prelude.{ℕ, ◌+◌, ◌==◌, List, [], ◌∷◌, ◌++◌, map, length, Bool, true, false, not, Option, Some, None, is_some, if◌then◌else◌}
use Rattle.std.specs.List.{filter, find, list_any}
use Rattle.jid_core.specs.Addresses.{Address, same_bare}
use Rattle.stanza_model.specs.declared.effect.Change.{Change}
use Rattle.stanza_model.specs.declared.effect.Change.TheVariants as change
use Rattle.stanza_model.specs.declared.effect.Effect.{Effect}
use Rattle.stanza_model.specs.declared.effect.Effect.TheVariants.{Queue, Broadcast, Enter, Leave, Keep, Set}
use Rattle.stanza_model.specs.declared.room.Affiliation.TheVariants.{Owner}
use Rattle.stanza_model.specs.declared.room.Occupant.{Occupant}
use Rattle.stanza_model.specs.declared.room.Role.{Role}
use Rattle.stanza_model.specs.declared.room.Room.{Room}
use Rattle.stanza_model.specs.declared.room.Seat.{Seat}
use Rattle.stanza_model.specs.declared.shared.Config.{Config}
use Rattle.muc_room.specs.Entering.{default_config}
use Rattle.muc_room.specs.Seats.{affiliation_of, has_nick, has_seat, occupant_of}
use Rattle.muc_room.specs.States.{set_affiliation, set_role}

-- a room that is there, and how many items it has broadcast, which is the number of the next
pub record Hosted : Type 0 where
  pub room : Room
  pub items : ℕ

-- how many rooms there were, and how many stays in them; and the rooms that are there, in the order of making
pub record Rooms : Type 0 where
  pub made : ℕ
  pub stays : ℕ
  pub hosted : List Hosted

-- before any room is made
abbrev pub no_rooms : Rooms
no_rooms = record { made = 0; stays = 0; hosted = [] }

-- What becomes of one room.

-- a session joins the occupant that has its nick
abbrev pub joined_if : Seat → (nick : List ℕ) → Occupant → Occupant
joined_if seat nick o = if has_nick nick o then record o { seats = o.seats ++ seat ∷ [] } else o

-- or it is an occupant, whose presence is still to be shown
abbrev pub newcomer : Room → Seat → (nick : List ℕ) → Role → Occupant
newcomer room seat nick role = record {
  seats = seat ∷ [];
  nick = nick;
  affiliation = affiliation_of seat.address room.affiliations;
  role = role;
  presence = [];
  spoke = seat.session;
}

-- XEP-0045, 7.2
abbrev pub occupied : Seat → (nick : List ℕ) → Role → Room → List Occupant
occupied seat nick role room =
    if list_any (has_nick nick) room.occupants then map (joined_if seat nick) room.occupants
    else room.occupants ++ newcomer room seat nick role ∷ []

abbrev pub enters : Seat → (nick : List ℕ) → Role → Room → Room
enters seat nick role room = record room { occupants = occupied seat nick role room }

-- the session whose presence is shown, once one has left: the first of the others, where it was that one
abbrev pub first_or : ℕ → List Seat → ℕ
first_or s [] = s
first_or s (seat ∷ more) = seat.session

abbrev pub without_seat : ℕ → Occupant → Occupant
without_seat session o = record o {
  seats = filter (λ seat. not (seat.session == session)) o.seats;
  spoke = if o.spoke == session then first_or o.spoke (filter (λ seat. not (seat.session == session)) o.seats) else o.spoke;
}

abbrev pub has_seats : Occupant → Bool
has_seats o = not (length o.seats == 0)

-- XEP-0045, 7.14: an occupant without a session isn't in the room any more
abbrev pub leaves : ℕ → Room → Room
leaves session room = record room { occupants = filter has_seats (map (without_seat session) room.occupants) }

abbrev pub renamed_if : ℕ → (nick : List ℕ) → Occupant → Occupant
renamed_if session nick o = if has_seat session o then record o { nick = nick } else o

abbrev pub renames : ℕ → (nick : List ℕ) → Room → Room
renames session nick room = record room { occupants = map (renamed_if session nick) room.occupants }

abbrev pub shown_if : ℕ → (presence : List ℕ) → Occupant → Occupant
shown_if session presence o = if has_seat session o then record o { presence = presence; spoke = session } else o

abbrev pub shows : ℕ → (presence : List ℕ) → Room → Room
shows session presence room = record room { occupants = map (shown_if session presence) room.occupants }

abbrev pub unlocked : Room → Room
unlocked room = record room { locked = false }

abbrev pub configured : Config → Room → Room
configured config room = record room { config = config }

-- XEP-0045, 8.1
abbrev pub has_subject : (text stamp : List ℕ) → Room → Room
has_subject text stamp room = record room { subject = Some (record { text = text; stamp = stamp }) }

-- Of all rooms.

-- the room of this number, which one has
abbrev pub changed_in : ℕ → (Room → Room) → List Hosted → List Hosted
changed_in n change [] = []
changed_in n change (h ∷ more) = if h.room.number == n then record h { room = change h.room } ∷ more else h ∷ changed_in n change more

abbrev pub changed : ℕ → (Room → Room) → Rooms → Rooms
changed n change rooms = record rooms { hosted = changed_in n change rooms.hosted }

abbrev pub counted_in : ℕ → List Hosted → List Hosted
counted_in n [] = []
counted_in n (h ∷ more) = if h.room.number == n then record h { items = h.items + 1 } ∷ more else h ∷ counted_in n more

-- one item more was broadcast in it
abbrev pub counted : ℕ → Rooms → Rooms
counted n rooms = record rooms { hosted = counted_in n rooms.hosted }

-- XEP-0045, 10.1: the next room
abbrev pub made_room : ℕ → (address owner : Address) → Room
made_room number address owner = record {
  number = number;
  address = address;
  config = default_config;
  locked = true;
  affiliations = record { address = owner; affiliation = Owner } ∷ [];
  occupants = [];
  subject = None;
}

abbrev pub with_room : ℕ → (address owner : Address) → Rooms → Rooms
with_room number address owner rooms = record rooms {
  made = rooms.made + 1;
  hosted = rooms.hosted ++ record { room = made_room number address owner; items = 0 } ∷ [];
}

-- its number is never given again
abbrev pub without_room : ℕ → Rooms → Rooms
without_room n rooms = record rooms { hosted = filter (λ h. not (h.room.number == n)) rooms.hosted }

-- the next stay
abbrev pub entered : ℕ → (session : ℕ) → Address → (nick : List ℕ) → Role → Rooms → Rooms
entered n session address nick role rooms =
    record (changed n (enters (record { session = session; address = address; stay = rooms.stays + 1 }) nick role) rooms) { stays = rooms.stays + 1 }

-- A change of anything else is none of the rooms'.
abbrev pub set : Change → Rooms → Rooms
set (change.RoomMade n address owner) rooms = with_room n address owner rooms
set (change.RoomGone n) rooms = without_room n rooms
set (change.Unlocked n) rooms = changed n unlocked rooms
set (change.Configured n config) rooms = changed n (configured config) rooms
set (change.Affiliated n address a) rooms = changed n (set_affiliation address a) rooms
set (change.RoleSet n session role) rooms = changed n (set_role session role) rooms
set (change.Renamed n session nick) rooms = changed n (renames session nick) rooms
set (change.OccupantShown n session presence) rooms = changed n (shows session presence) rooms
set (change.Subject n text stamp) rooms = changed n (has_subject text stamp) rooms
set c rooms = rooms

abbrev pub step : Effect → Rooms → Rooms
step (Broadcast n item) rooms = counted n rooms
step (Enter n session address nick role) rooms = entered n session address nick role rooms
step (Leave n session) rooms = changed n (leaves session) rooms
step (Set c) rooms = set c rooms
step (Queue session to rest origin) rooms = rooms
step (Keep user peer text moment) rooms = rooms

-- What is found.

-- the room of a number
abbrev pub hosted_as : ℕ → Rooms → Option Hosted
hosted_as n rooms = find (λ h. h.room.number == n) rooms.hosted

-- the room at a bare address
abbrev pub hosted_at : Address → Rooms → Option Hosted
hosted_at address rooms = find (λ h. same_bare h.room.address address) rooms.hosted

abbrev pub is_in : ℕ → Hosted → Bool
is_in session h = is_some (occupant_of session h.room.occupants)

-- in how many rooms a session is
abbrev pub entered_by : ℕ → Rooms → ℕ
entered_by session rooms = length (filter (is_in session) rooms.hosted)
