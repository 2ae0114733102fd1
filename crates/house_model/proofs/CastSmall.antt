-- The views that are queued of a broadcast are small, where each effect of the list is.
use Rattle.std.proofs.Common.{ℕ, ◌==◌, List, [], ◌∷◌, ◌++◌, map, flat_map, not, arith, Option, Some, None, IfSome}
use Rattle.std.specs.List.{AllByRecursion, list_any}
use Rattle.stanza_tree.specs.declared.frame.Origin.TheVariants.{Live}
use Rattle.stanza_model.specs.declared.effect.Change.{Change}
use Rattle.stanza_model.specs.declared.effect.Change.TheVariants as change
use Rattle.stanza_model.specs.declared.effect.Effect.{Effect}
use Rattle.stanza_model.specs.declared.effect.Effect.TheVariants.{Queue, Broadcast, Enter, Leave, Keep, Set}
use Rattle.stanza_model.specs.declared.room.Occupant.{Occupant}
use Rattle.stanza_model.specs.declared.room.Role.{Role}
use Rattle.stanza_model.specs.declared.room.Room.{Room}
use Rattle.stanza_model.specs.declared.room.RoomItem.{RoomItem}
use Rattle.stanza_model.specs.declared.room.Seat.{Seat}
use Rattle.muc_roles.specs.Roles.{sees_addresses}
use Rattle.muc_room.specs.Seats.{has_nick, has_seat}
use Rattle.muc_room.specs.States.{affiliated_if, is_of, role_if}
use Rattle.muc_room.specs.Views.{seen}
use Rattle.muc_service.specs.Casting.{cast, copies_for, copies_in, copy_for, heard}
use Rattle.muc_service.specs.Rooms.{Hosted, Rooms, has_seats, hosted_as, joined_if, newcomer, occupied, renamed_if, shown_if, without_seat}
use Rattle.house_model.specs.Fitting.{AreShortRooms, IsShortAddress, IsShortOccupant, IsShortRoom}
use Rattle.house_model.proofs.Founds.{append_all, filter_all}
use Rattle.house_model.proofs.RoomCases.{found_all, map_all}
use Rattle.house_model.proofs.SmallEffects.{R, Small, SmallChange, queued}
use Rattle.house_model.proofs.RoomsKept.{ChangeKeeps, EachRoom, KeepsEach, cast_each}
use Rattle.house_model.proofs.StayLemmas.{choose}
use Rattle.house_model.proofs.ViewSizes.{IsShortItem, seen-le}

-- addresses of a room, and of those who are in it
abbrev Sits : Occupant → Type 0
Sits o = AllByRecursion R o.seats

abbrev Seated : Room → Type 0
Seated r = IsShortAddress r.address × AllByRecursion Sits r.occupants

sits_all : (os : List Occupant) → AllByRecursion IsShortOccupant os → AllByRecursion Sits os
sits_all [] all = tt
sits_all (o ∷ os) all = (all.0.seats, sits_all os all.1)

seated_each : (rooms : Rooms) → AreShortRooms rooms → EachRoom Seated rooms
seated_each rooms all n = by (hosted_as n rooms) (found_all (λ h. IsShortRoom h.room) (λ h. h.room.number == n) rooms.hosted all) where
  by : (o : Option Hosted) → IfSome o (λ h. IsShortRoom h.room) → IfSome o (λ h. Seated h.room)
  by None is = tt
  by (Some h) is = (is.address, sits_all h.room.occupants is.occupants)

-- each small effect keeps them

mapped : (f : Occupant → Occupant) → ((o : Occupant) → Sits o → Sits (f o)) → (r : Room) → Seated r
    → IsShortAddress r.address × AllByRecursion Sits (map f r.occupants)
mapped f each r is = (is.0, map_all Sits Sits f each r.occupants is.1)

change_keeps : (c : Change) → SmallChange c → ChangeKeeps Seated c
change_keeps (change.RoomMade n address owner) short = (short, tt)
change_keeps (change.Unlocked n) short = λ r is. is
change_keeps (change.Configured n config) short = λ r is. is
change_keeps (change.Affiliated n address a) short = λ r is.
    mapped (affiliated_if address a) (λ o s. choose Sits (is_of address o) (record o { affiliation = a }) o (λ (_ : _). s) (λ (_ : _). s)) r is
change_keeps (change.RoleSet n q role) short = λ r is.
    mapped (role_if q role) (λ o s. choose Sits (has_seat q o) (record o { role = role }) o (λ (_ : _). s) (λ (_ : _). s)) r is
change_keeps (change.Renamed n q nick) short = λ r is.
    mapped (renamed_if q nick) (λ o s. choose Sits (has_seat q o) (record o { nick = nick }) o (λ (_ : _). s) (λ (_ : _). s)) r is
change_keeps (change.OccupantShown n q presence) short = λ r is.
    mapped (shown_if q presence) (λ o s. choose Sits (has_seat q o) (record o { presence = presence; spoke = q }) o (λ (_ : _). s) (λ (_ : _). s)) r is
change_keeps (change.Subject n text stamp) short = λ r is. is
change_keeps (change.RoomGone n) short = tt
change_keeps c short = tt

entered_sits : (x : Seat) (nick : List ℕ) (role : Role) (r : Room) → IsShortAddress x.address → AllByRecursion Sits r.occupants
    → AllByRecursion Sits (occupied x nick role r)
entered_sits x nick role r short all =
    choose (AllByRecursion Sits) (list_any (has_nick nick) r.occupants) (map (joined_if x nick) r.occupants) (r.occupants ++ newcomer r x nick role ∷ [])
    (λ (_ : _). map_all Sits Sits (joined_if x nick)
    (λ o s. choose Sits (has_nick nick o) (record o { seats = o.seats ++ x ∷ [] }) o
    (λ (_ : _). append_all R o.seats (x ∷ []) s (short, tt)) (λ (_ : _). s)) r.occupants all)
    (λ (_ : _). append_all Sits r.occupants (newcomer r x nick role ∷ []) all ((short, tt), tt))

small_keeps : (e : Effect) → Small e → KeepsEach Seated e
small_keeps (Queue s to rest origin) short = tt
small_keeps (Broadcast n item) short = tt
small_keeps (Keep user peer text moment) short = tt
small_keeps (Enter n s address nick role) short =
    λ stay r is. (is.0, entered_sits (record { session = s; address = address; stay = stay }) nick role r short.0 is.1)
small_keeps (Leave n s) short =
    λ r is. (
      is.0,
      filter_all Sits has_seats (map (without_seat s) r.occupants)
          (map_all Sits Sits (without_seat s) (λ o sits. filter_all R (λ x. not (x.session == s)) o.seats sits) r.occupants is.1),
    )
small_keeps (Set c) short = change_keeps c short

-- the views

copies_all : (h : Hosted) (item : RoomItem) → IsShortItem item → IsShortAddress h.room.address → (os : List Occupant) → AllByRecursion Sits os
    → AllByRecursion Small (flat_map (copies_for h item) os)
copies_all h item short host [] all = tt
copies_all h item short host (o ∷ os) all =
    append_all Small (copies_for h item o) (flat_map (copies_for h item) os)
    (map_all Small R (copy_for h item o)
    (λ x own. queued x.session x.address (seen item (sees_addresses o.role h.room.config.anyone) h.room.address x.session x.address)
    (Live h.room.number x.stay h.items) own
    (omega (arith, seen-le item (sees_addresses o.role h.room.config.anyone) h.room.address x.session x.address short host own)))
    o.seats all.0) (copies_all h item short host os all.1)

found_small : (found : Option Hosted) (item : RoomItem) → IsShortItem item → IfSome found (λ h. Seated h.room) → AllByRecursion Small (copies_in found item)
found_small None item short is = tt
found_small (Some h) item short is = copies_all h item short is.0 h.room.occupants is.1

heard_small : (rooms : Rooms) (e : Effect) → Small e → EachRoom Seated rooms → AllByRecursion Small (heard rooms e)
heard_small rooms (Broadcast n item) short each = found_small (hosted_as n rooms) item short (each n)
heard_small rooms (Queue s to rest origin) short each = tt
heard_small rooms (Enter n s address nick role) short each = tt
heard_small rooms (Leave n s) short each = tt
heard_small rooms (Keep user peer text moment) short each = tt
heard_small rooms (Set c) short each = tt

pub cast_small : (es : List Effect) (rooms : Rooms) → AreShortRooms rooms → AllByRecursion Small es → AllByRecursion Small (cast rooms es)
cast_small es rooms short all = cast_each Seated Small small_keeps heard_small es rooms (seated_each rooms short) all
