-- What effects count of rooms, of stays and of items.
use Rattle.std.proofs.Common.{◌≡◌, ℕ, ◌+◌, ◌≤◌, List, [], ◌∷◌, ◌++◌, length, Bool, true, false, not, cond, refl, ap, arith}
use Rattle.std.specs.Prelude.{◌==◌, max}
use Rattle.std.specs.List.{filter}
use Rattle.stanza_model.specs.declared.effect.Change.{Change}
use Rattle.stanza_model.specs.declared.effect.Change.TheVariants as change
use Rattle.stanza_model.specs.declared.effect.Effect.{Effect}
use Rattle.stanza_model.specs.declared.effect.Effect.TheVariants.{Queue, Broadcast, Enter, Leave, Keep, Set}
use Rattle.stanza_model.specs.declared.room.Room.{Room}
use Rattle.muc_service.specs.Casting.{after}
use Rattle.muc_service.specs.Rooms.{Hosted, Rooms, changed, changed_in, counted_in, enters, made_room, set, step}
use Rattle.muc_service.specs.Changing.{HasRoomFor, HasRoomForAll, begins, begun_by, made_by, makes, most_items}

most_changed : (n : ℕ) (f : Room → Room) (hs : List Hosted) → most_items (changed_in n f hs) ≡ most_items hs
most_changed n f [] = refl
most_changed n f (h ∷ hs) = by (h.room.number == n) (most_changed n f hs)
  where
    by : (b : Bool) → most_items (changed_in n f hs) ≡ most_items hs
        → most_items (cond b (record h { room = f h.room } ∷ hs) (h ∷ changed_in n f hs)) ≡ max h.items (most_items hs)
    by true same = refl
    by false same = ap (λ (k : ℕ). max h.items k) same

most_counted : (n : ℕ) (hs : List Hosted) → most_items (counted_in n hs) ≤ most_items hs + 1
most_counted n [] = omega arith
most_counted n (h ∷ hs) = by (h.room.number == n) (most_counted n hs)
  where
    by : (b : Bool) → most_items (counted_in n hs) ≤ most_items hs + 1
        → most_items (cond b (record h { items = h.items + 1 } ∷ hs) (h ∷ counted_in n hs)) ≤ max h.items (most_items hs) + 1
    by true rest = omega arith
    by false rest = omega (arith, rest)

most_filter : (p : Hosted → Bool) (hs : List Hosted) → most_items (filter p hs) ≤ most_items hs
most_filter p [] = omega arith
most_filter p (h ∷ hs) = by (p h) (most_filter p hs)
  where
    by : (b : Bool) → most_items (filter p hs) ≤ most_items hs → most_items (cond b (h ∷ filter p hs) (filter p hs)) ≤ max h.items (most_items hs)
    by true rest = omega (arith, rest)
    by false rest = omega (arith, rest)

most_added : (room : Room) (hs : List Hosted) → most_items (hs ++ record { room = room; items = 0 } ∷ []) ≡ most_items hs
most_added room [] = refl
most_added room (h ∷ hs) = ap (λ (k : ℕ). max h.items k) (most_added room hs)

-- what one effect counts
pub record Counts (e : Effect) (rooms : Rooms) (new : Rooms) : Type 0 where
  pub made : new.made ≡ rooms.made + makes e
  pub stays : new.stays ≡ rooms.stays + begins e
  pub items : most_items new.hosted ≤ most_items rooms.hosted + 1

changed_counts : (e : Effect) (n : ℕ) (f : Room → Room) (rooms : Rooms) → makes e ≡ 0 → begins e ≡ 0 → Counts e rooms (changed n f rooms)
changed_counts e n f rooms none never = record {
  made = omega (arith, none);
  stays = omega (arith, never);
  items = omega (arith, most_changed n f rooms.hosted);
}

same_counts : (e : Effect) (rooms : Rooms) → makes e ≡ 0 → begins e ≡ 0 → Counts e rooms rooms
same_counts e rooms none never = record { made = omega (arith, none); stays = omega (arith, never); items = omega arith }

set_counts : (c : Change) (rooms : Rooms) → Counts (Set c) rooms (set c rooms)
set_counts (change.RoomMade n address owner) rooms = record {
  made = omega arith;
  stays = omega arith;
  items = omega (arith, most_added (made_room n address owner) rooms.hosted);
}
set_counts (change.RoomGone n) rooms = record {
  made = omega arith;
  stays = omega arith;
  items = omega (arith, most_filter (λ h. not (h.room.number == n)) rooms.hosted);
}
set_counts (change.Unlocked n) rooms = changed_counts (Set (change.Unlocked n)) n _ rooms refl refl
set_counts (change.Configured n config) rooms = changed_counts (Set (change.Configured n config)) n _ rooms refl refl
set_counts (change.Affiliated n address a) rooms = changed_counts (Set (change.Affiliated n address a)) n _ rooms refl refl
set_counts (change.RoleSet n session role) rooms = changed_counts (Set (change.RoleSet n session role)) n _ rooms refl refl
set_counts (change.Renamed n session nick) rooms = changed_counts (Set (change.Renamed n session nick)) n _ rooms refl refl
set_counts (change.OccupantShown n session presence) rooms = changed_counts (Set (change.OccupantShown n session presence)) n _ rooms refl refl
set_counts (change.Subject n text stamp) rooms = changed_counts (Set (change.Subject n text stamp)) n _ rooms refl refl
set_counts c rooms = same_counts (Set c) rooms refl refl

pub step_counts : (e : Effect) (rooms : Rooms) → Counts e rooms (step e rooms)
step_counts (Broadcast n item) rooms = record {
  made = omega arith;
  stays = omega arith;
  items = omega (arith, most_counted n rooms.hosted);
}
step_counts (Enter n session address nick role) rooms = record {
  made = omega arith;
  stays = refl;
  items = omega (arith, most_changed n (enters (record { session = session; address = address; stay = rooms.stays + 1 }) nick role) rooms.hosted);
}
step_counts (Leave n session) rooms = changed_counts (Leave n session) n _ rooms refl refl
step_counts (Set c) rooms = set_counts c rooms
step_counts (Queue session to rest origin) rooms = same_counts (Queue session to rest origin) rooms refl refl
step_counts (Keep user peer text moment) rooms = same_counts (Keep user peer text moment) rooms refl refl

-- what a list counts
pub record CountsAll (es : List Effect) (rooms new : Rooms) : Type 0 where
  pub made : new.made ≡ rooms.made + made_by es
  pub stays : new.stays ≡ rooms.stays + begun_by es
  pub items : most_items new.hosted ≤ most_items rooms.hosted + length es

pub after_counts : (es : List Effect) (rooms : Rooms) → CountsAll es rooms (after rooms es)
after_counts [] rooms = record { made = omega arith; stays = omega arith; items = omega arith }
after_counts (e ∷ es) rooms =
    let one = step_counts e rooms in
    let rest = after_counts es (step e rooms) in
    record {
      made = omega (arith, one.made, rest.made);
      stays = omega (arith, one.stays, rest.stays);
      items = omega (arith, one.items, rest.items);
    }

-- one after another
pub one_of_all : (es : List Effect) (rooms : Rooms) → HasRoomForAll es rooms → HasRoomFor 1 rooms
one_of_all es rooms has = record {
  made = omega (arith, has.made);
  stays = omega (arith, has.stays);
  items = omega (arith, has.items);
}

pub all_next : (e : Effect) (es : List Effect) (rooms : Rooms) → HasRoomForAll (e ∷ es) rooms → HasRoomForAll es (step e rooms)
all_next e es rooms has =
    let one = step_counts e rooms in
    record {
      made = omega (arith, has.made, one.made);
      stays = omega (arith, has.stays, one.stays);
      items = omega (arith, has.items, one.items);
    }
