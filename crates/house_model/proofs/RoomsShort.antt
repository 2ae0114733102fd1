-- What is kept of the rooms stays short by effects that set what is short, but for the list of a room's affiliations.
use Rattle.std.proofs.Common.{ℕ, ◌+◌, ◌≤◌, ◌==◌, List, [], ◌∷◌, ◌++◌, map, length, not, arith, IfSome}
use Rattle.std.specs.List.{AllByRecursion, filter, list_any}
use Rattle.stanza_model.specs.declared.effect.Change.{Change}
use Rattle.stanza_model.specs.declared.effect.Change.TheVariants as change
use Rattle.stanza_model.specs.declared.effect.Effect.{Effect}
use Rattle.stanza_model.specs.declared.effect.Effect.TheVariants.{Queue, Broadcast, Enter, Leave, Keep, Set}
use Rattle.stanza_model.specs.declared.room.Occupant.{Occupant}
use Rattle.stanza_model.specs.declared.room.Role.{Role}
use Rattle.stanza_model.specs.declared.room.Room.{Room}
use Rattle.stanza_model.specs.declared.room.Seat.{Seat}
use Rattle.muc_room.specs.Seats.{has_nick, has_seat}
use Rattle.muc_room.specs.States.{affiliated_if, is_of, role_if, set_affiliation, set_role}
use Rattle.muc_service.specs.Casting.{after}
use Rattle.muc_service.specs.Rooms as service
use Rattle.muc_service.specs.Rooms.{Hosted, Rooms, changed_in, configured, counted_in, enters, has_seats, has_subject, joined_if, leaves, made_room}
use Rattle.muc_service.specs.Rooms.{newcomer, occupied, renamed_if, renames, shown_if, shows, step, unlocked, without_seat}
use Rattle.house_model.specs.Fitting.{IsShortAddress, IsShortOccupant, IsShortRoom}
use Rattle.house_model.proofs.ConfigSizes.{IsShortConfig}
use Rattle.house_model.proofs.Founds.{append_all, filter_all}
use Rattle.house_model.proofs.RoomCases.{map_all}
use Rattle.house_model.proofs.SmallEffects.{R, Slight, SlightChange}
use Rattle.house_model.proofs.StayLemmas.{choose}

-- a room but for its affiliations
pub record IsShortBody (r : Room) : Type 0 where
  pub address : IsShortAddress r.address
  pub config : IsShortConfig r.config
  pub occupants : AllByRecursion IsShortOccupant r.occupants
  pub subject : IfSome r.subject (λ s. (length s.text ≤ 300000) × (length s.stamp ≤ 24))

abbrev pub AreShortBodies : Rooms → Type 0
AreShortBodies rooms = AllByRecursion (λ (h : Hosted). IsShortBody h.room) rooms.hosted

pub bodies_of : (hs : List Hosted) → AllByRecursion (λ (h : Hosted). IsShortRoom h.room) hs → AllByRecursion (λ (h : Hosted). IsShortBody h.room) hs
bodies_of [] all = tt
bodies_of (h ∷ hs) all = (
  record {
    address = all.0.address;
    config = record { title = all.0.title; secret = all.0.secret; most = all.0.most };
    occupants = all.0.occupants;
    subject = all.0.subject;
  },
  bodies_of hs all.1,
)

-- one room is another

changed_bodies : (n : ℕ) (f : Room → Room) → ((r : Room) → IsShortBody r → IsShortBody (f r)) → (hs : List Hosted)
    → AllByRecursion (λ (h : Hosted). IsShortBody h.room) hs → AllByRecursion (λ (h : Hosted). IsShortBody h.room) (changed_in n f hs)
changed_bodies n f keeps [] all = tt
changed_bodies n f keeps (h ∷ hs) all =
    choose (AllByRecursion (λ (x : Hosted). IsShortBody x.room)) (h.room.number == n) (record h { room = f h.room } ∷ hs) (h ∷ changed_in n f hs)
    (λ (_ : _). (keeps h.room all.0, all.1)) (λ (_ : _). (all.0, changed_bodies n f keeps hs all.1))

counted_bodies : (n : ℕ) (hs : List Hosted) → AllByRecursion (λ (h : Hosted). IsShortBody h.room) hs
    → AllByRecursion (λ (h : Hosted). IsShortBody h.room) (counted_in n hs)
counted_bodies n [] all = tt
counted_bodies n (h ∷ hs) all =
    choose (AllByRecursion (λ (x : Hosted). IsShortBody x.room)) (h.room.number == n) (record h { items = h.items + 1 } ∷ hs) (h ∷ counted_in n hs)
    (λ (_ : _). all) (λ (_ : _). (all.0, counted_bodies n hs all.1))

-- who is in it

with_occupants : (r : Room) (os : List Occupant) → IsShortBody r → AllByRecursion IsShortOccupant os → IsShortBody (record r { occupants = os })
with_occupants r os short all = record { address = short.address; config = short.config; occupants = all; subject = short.subject }

mapped : (f : Occupant → Occupant) → ((o : Occupant) → IsShortOccupant o → IsShortOccupant (f o)) → (r : Room) → IsShortBody r
    → IsShortBody (record r { occupants = map f r.occupants })
mapped f each r short = with_occupants r (map f r.occupants) short (map_all IsShortOccupant IsShortOccupant f each r.occupants short.occupants)

entered_short : (x : Seat) (nick : List ℕ) (role : Role) (r : Room) → IsShortAddress x.address → length nick ≤ 3071 → IsShortBody r
    → IsShortBody (enters x nick role r)
entered_short x nick role r own few short =
    with_occupants r (occupied x nick role r) short
    (choose (AllByRecursion IsShortOccupant) (list_any (has_nick nick) r.occupants) (map (joined_if x nick) r.occupants)
    (r.occupants ++ newcomer r x nick role ∷ [])
    (λ (_ : _). map_all IsShortOccupant IsShortOccupant (joined_if x nick) joined r.occupants short.occupants)
    (λ (_ : _). append_all IsShortOccupant r.occupants (newcomer r x nick role ∷ []) short.occupants
    (record { seats = (own, tt); nick = few; presence = omega arith }, tt))) where
      joined : (o : Occupant) → IsShortOccupant o → IsShortOccupant (joined_if x nick o)
      joined o is =
          choose IsShortOccupant (has_nick nick o) (record o { seats = o.seats ++ x ∷ [] }) o
          (λ (_ : _). record { seats = append_all R o.seats (x ∷ []) is.seats (own, tt); nick = is.nick; presence = is.presence }) (λ (_ : _). is)

left_short : (s : ℕ) (r : Room) → IsShortBody r → IsShortBody (leaves s r)
left_short s r short =
    with_occupants r (filter has_seats (map (without_seat s) r.occupants)) short
    (filter_all IsShortOccupant has_seats (map (without_seat s) r.occupants)
    (map_all IsShortOccupant IsShortOccupant (without_seat s)
    (λ o is. record { seats = filter_all R (λ x. not (x.session == s)) o.seats is.seats; nick = is.nick; presence = is.presence }) r.occupants short.occupants))

-- what is set

set_short : (c : Change) (rooms : Rooms) → SlightChange c → AreShortBodies rooms → AreShortBodies (service.set c rooms)
set_short (change.RoomMade n address owner) rooms small all =
    append_all (λ (h : Hosted). IsShortBody h.room) rooms.hosted (record { room = made_room n address owner; items = 0 } ∷ []) all
    (record { address = small; config = record { title = omega arith; secret = omega arith; most = omega arith }; occupants = tt; subject = tt }, tt)
set_short (change.RoomGone n) rooms small all = filter_all (λ (h : Hosted). IsShortBody h.room) (λ h. not (h.room.number == n)) rooms.hosted all
set_short (change.Unlocked n) rooms small all =
    changed_bodies n unlocked (λ r s. record { address = s.address; config = s.config; occupants = s.occupants; subject = s.subject }) rooms.hosted all
set_short (change.Configured n config) rooms small all =
    changed_bodies n (configured config) (λ r s. record { address = s.address; config = small; occupants = s.occupants; subject = s.subject }) rooms.hosted all
set_short (change.Affiliated n address a) rooms small all =
    changed_bodies n (set_affiliation address a)
    (λ r s. record {
      address = s.address;
      config = s.config;
      occupants = map_all IsShortOccupant IsShortOccupant (affiliated_if address a)
          (λ o is. choose IsShortOccupant (is_of address o) (record o { affiliation = a }) o
          (λ (_ : _). record { seats = is.seats; nick = is.nick; presence = is.presence }) (λ (_ : _). is)) r.occupants s.occupants;
      subject = s.subject;
    }) rooms.hosted all
set_short (change.RoleSet n q role) rooms small all =
    changed_bodies n (set_role q role)
    (mapped (role_if q role) (λ o is. choose IsShortOccupant (has_seat q o) (record o { role = role }) o
    (λ (_ : _). record { seats = is.seats; nick = is.nick; presence = is.presence }) (λ (_ : _). is))) rooms.hosted all
set_short (change.Renamed n q nick) rooms small all =
    changed_bodies n (renames q nick)
    (mapped (renamed_if q nick) (λ o is. choose IsShortOccupant (has_seat q o) (record o { nick = nick }) o
    (λ (_ : _). record { seats = is.seats; nick = small; presence = is.presence }) (λ (_ : _). is))) rooms.hosted all
set_short (change.OccupantShown n q presence) rooms small all =
    changed_bodies n (shows q presence)
    (mapped (shown_if q presence) (λ o is. choose IsShortOccupant (has_seat q o) (record o { presence = presence; spoke = q }) o
    (λ (_ : _). record { seats = is.seats; nick = is.nick; presence = small }) (λ (_ : _). is))) rooms.hosted all
set_short (change.Subject n text stamp) rooms small all =
    changed_bodies n (has_subject text stamp)
    (λ r s. record { address = s.address; config = s.config; occupants = s.occupants; subject = small }) rooms.hosted all
set_short c rooms small all = all

step_short : (e : Effect) (rooms : Rooms) → Slight e → AreShortBodies rooms → AreShortBodies (step e rooms)
step_short (Queue s to rest origin) rooms small all = all
step_short (Broadcast n item) rooms small all = counted_bodies n rooms.hosted all
step_short (Enter n s address nick role) rooms small all =
    changed_bodies n (enters (record { session = s; address = address; stay = rooms.stays + 1 }) nick role)
    (λ r short. entered_short (record { session = s; address = address; stay = rooms.stays + 1 }) nick role r small.0 small.1 short) rooms.hosted all
step_short (Leave n s) rooms small all = changed_bodies n (leaves s) (λ r short. left_short s r short) rooms.hosted all
step_short (Keep user peer text moment) rooms small all = all
step_short (Set c) rooms small all = set_short c rooms small all

pub after_short : (es : List Effect) (rooms : Rooms) → AllByRecursion Slight es → AreShortBodies rooms → AreShortBodies (after rooms es)
after_short [] rooms small all = all
after_short (e ∷ es) rooms small all = after_short es (step e rooms) small.1 (step_short e rooms small.0 all)
