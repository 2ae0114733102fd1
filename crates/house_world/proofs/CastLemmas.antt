-- Effects as they are cast, and the rooms after them.
use Rattle.std.proofs.Common.{◌≡◌, ℕ, ◌+◌, ◌^◌, ◌<◌, ◌≤◌, List, [], ◌∷◌, ◌++◌, map, length, append_assoc, Bool, true, false, Option, Some, None}
use Rattle.std.proofs.Common.{refl, sym, ap, subst, ◌∙◌, arith}
use Rattle.std.specs.Prelude.{flat_map, unwrap_or, ◌||◌}
use Rattle.std.specs.List.{list_any}
use Rattle.std.specs.Global.{Vec}
use Rattle.stanza_model.specs.declared.effect.Change.{Change}
use Rattle.stanza_model.specs.declared.effect.Change.TheVariants as change
use Rattle.stanza_model.specs.declared.effect.Effect.{Effect}
use Rattle.stanza_model.specs.declared.effect.Effect.TheVariants.{Queue, Broadcast, Enter, Leave, Keep, Set}
use Rattle.stanza_model.specs.declared.room.Occupant.{Occupant}
use Rattle.stanza_model.specs.declared.room.RoomItem.{RoomItem}
use Rattle.stanza_model.specs.declared.room.Seat.{Seat}
use Rattle.muc_service.specs.Casting.{after, cast, copies_for, copies_in, copy_for, heard}
use Rattle.muc_service.specs.Changing.{HasRoomForAll, begun_by, made_by}
use Rattle.muc_service.specs.Rooms.{Hosted, Rooms, hosted_as, set, step}
use Rattle.muc_service.proofs.RoomLemmas.{after_counts}
use Rattle.house_model.specs.Fitting.{AreShortRooms}
use Rattle.muc_service.specs.Numbering.{Numbered}
use Rattle.house_world.specs.declared.casting.Cast.{Cast}
use Rattle.house_world.specs.Hosting.{AreHosted, Hosts, IsCast, touches}
use Rattle.house_world.specs.Marks.{is_of_rooms}

-- the views that are queued of a broadcast leave the rooms as they are

seats_after : (h : Hosted) (item : RoomItem) (o : Occupant) (xs : List Seat) (rooms : Rooms) (rest : List Effect)
    → after rooms (map (copy_for h item o) xs ++ rest) ≡ after rooms rest
seats_after h item o [] rooms rest = refl
seats_after h item o (x ∷ xs) rooms rest = seats_after h item o xs rooms rest

copies_after : (h : Hosted) (item : RoomItem) (os : List Occupant) (rooms : Rooms) (rest : List Effect)
    → after rooms (flat_map (copies_for h item) os ++ rest) ≡ after rooms rest
copies_after h item [] rooms rest = refl
copies_after h item (o ∷ os) rooms rest =
    ap (after rooms) (append_assoc (copies_for h item o) (flat_map (copies_for h item) os) rest)
    ∙ (seats_after h item o o.seats rooms (flat_map (copies_for h item) os ++ rest) ∙ copies_after h item os rooms rest)

found_after : (found : Option Hosted) (item : RoomItem) (rooms : Rooms) (rest : List Effect) → after rooms (copies_in found item ++ rest) ≡ after rooms rest
found_after None item rooms rest = refl
found_after (Some h) item rooms rest = copies_after h item h.room.occupants rooms rest

heard_after : (e : Effect) (rooms : Rooms) (rest : List Effect) → after rooms (heard rooms e ++ rest) ≡ after rooms rest
heard_after (Queue s to rest origin) rooms more = refl
heard_after (Broadcast n item) rooms more = found_after (hosted_as n rooms) item rooms more
heard_after (Enter n s address nick role) rooms more = refl
heard_after (Leave n s) rooms more = refl
heard_after (Keep user peer text moment) rooms more = refl
heard_after (Set c) rooms more = refl

pub after_cast : (es : List Effect) (rooms : Rooms) → after rooms (cast rooms es) ≡ after rooms es
after_cast [] rooms = refl
after_cast (e ∷ es) rooms = heard_after e rooms (e ∷ cast (step e rooms) es) ∙ after_cast es (step e rooms)

-- effects none of which is of rooms

both_false : (a b : Bool) → (a || b) ≡ false → (a ≡ false) × (b ≡ false)
both_false false b is = (refl, is)
both_false true b is = absurd (cc)

set_same : (c : Change) (rooms : Rooms) → is_of_rooms c ≡ false → set c rooms ≡ rooms
set_same (change.WantsRoster s) rooms is = refl
set_same (change.Pushed s pushes) rooms is = refl
set_same (change.Available s stanza priority) rooms is = refl
set_same (change.Unavailable s) rooms is = refl
set_same (change.Directed s addresses) rooms is = refl
set_same (change.Contact user address name groups) rooms is = refl
set_same (change.NoContact user address) rooms is = refl
set_same (change.Sees a b on) rooms is = refl
set_same (change.Asked a b on) rooms is = refl
set_same (change.RoomMade n address owner) rooms is = absurd (cc)
set_same (change.RoomGone n) rooms is = absurd (cc)
set_same (change.Unlocked n) rooms is = absurd (cc)
set_same (change.Configured n config) rooms is = absurd (cc)
set_same (change.Affiliated n address a) rooms is = absurd (cc)
set_same (change.RoleSet n s role) rooms is = absurd (cc)
set_same (change.Renamed n s nick) rooms is = absurd (cc)
set_same (change.OccupantShown n s presence) rooms is = absurd (cc)
set_same (change.Subject n text stamp) rooms is = absurd (cc)
set_same (change.RoomRow n peer text moment) rooms is = refl

untouched : (es : List Effect) (rooms : Rooms) → list_any touches es ≡ false → (cast rooms es ≡ es) × (after rooms es ≡ rooms)
untouched [] rooms is = (refl, refl)
untouched (Queue s to rest origin ∷ es) rooms is =
    let more = untouched es rooms is in
    (ap (λ (l : List Effect). Queue s to rest origin ∷ l) more.0, more.1)
untouched (Keep user peer text moment ∷ es) rooms is =
    let more = untouched es rooms is in
    (ap (λ (l : List Effect). Keep user peer text moment ∷ l) more.0, more.1)
untouched (Broadcast n item ∷ es) rooms is = absurd (cc)
untouched (Enter n s address nick role ∷ es) rooms is = absurd (cc)
untouched (Leave n s ∷ es) rooms is = absurd (cc)
untouched (Set c ∷ es) rooms is =
    let parts = both_false (is_of_rooms c) (list_any touches es) is in
    let same : set c rooms ≡ rooms = set_same c rooms parts.0 in
    let more = untouched es rooms parts.1 in (
      ap (λ (r : Rooms). Set c ∷ cast r es) same ∙ ap (λ (l : List Effect). Set c ∷ l) more.0,
      ap (λ (r : Rooms). after r es) same ∙ more.1,
    )

pub untouched_cast : (es : List Effect) (rooms : Rooms) → list_any touches es ≡ false → es ≡ cast rooms es
untouched_cast es rooms is = sym (untouched es rooms is).0

pub untouched_rooms : (es : List Effect) (rooms : Rooms) → list_any touches es ≡ false → rooms ≡ after rooms es
untouched_rooms es rooms is = sym (untouched es rooms is).1

-- of effects one of which is
pub cast_rooms : (es out : List Effect) (rooms copied new : Rooms) → copied ≡ rooms → out ≡ cast copied es → new ≡ after copied es
    → (out ≡ cast rooms es) × (new ≡ after rooms out)
cast_rooms es out rooms copied new same is now =
    let queued : out ≡ cast rooms es = is ∙ ap (λ (r : Rooms). cast r es) same in
    (queued, now ∙ (ap (λ (r : Rooms). after r es) same ∙ (sym (after_cast es rooms) ∙ ap (after rooms) (sym queued))))

-- no effects
pub none_cast : (rooms : Rooms) (v : Vec Effect) → v.items ≡ [] → IsCast [] rooms (record { effects = v; rooms = None })
none_cast rooms v none = record { effects = none; put = sym (ap (after rooms) none) }

pub none_rooms : (rooms : Rooms) (c : Cast) → IsCast [] rooms c → rooms ≡ unwrap_or c.rooms rooms
none_rooms rooms c is = sym (is.put ∙ ap (after rooms) is.effects)

-- what the turns count

pub hosted_later : (n m : ℕ) (rooms : Rooms) → n ≤ m → AreHosted n rooms → AreHosted m rooms
hosted_later n m rooms less is = record {
  made = omega (arith, is.made, less);
  stays = omega (arith, is.stays, less);
  items = omega (arith, is.items, less);
  numbered = is.numbered;
  short = is.short;
}

-- a turn that leaves the rooms as they are
pub hosts_same : (rooms new : Rooms) → new ≡ rooms → Hosts rooms new
hosts_same rooms new same = λ n is. subst (λ (r : Rooms). AreHosted (n + 1) r) (sym same) (hosted_later n (n + 1) rooms (omega arith) is)

-- one that puts them where they are still as they were
pub hosts_by : (rooms checked made new : Rooms) (put : Option Rooms) → checked ≡ rooms → made ≡ checked → new ≡ unwrap_or put made
    → Hosts checked (unwrap_or put checked) → Hosts rooms new
hosts_by rooms checked made new put first second third hosts =
    subst (λ (r : Rooms). Hosts r new) first
    (subst (λ (r : Rooms). Hosts checked r) (sym (third ∙ ap (λ (r : Rooms). unwrap_or put r) second)) hosts)

-- effects of one turn have numbers, where it makes at most one room, and one stay begins
pub room_for_all : (n : ℕ) (es : List Effect) (rooms : Rooms) → n ≤ 2 ^ 63 + 2 ^ 62 → made_by es ≤ 1 → begun_by es ≤ 1 → length es < 2 ^ 64
    → AreHosted n rooms → HasRoomForAll es rooms
room_for_all n es rooms few made begun short is = record {
  made = omega (arith, is.made, few, made);
  stays = omega (arith, is.stays, few, begun);
  items = omega (arith, is.items, few, short);
}

-- and are counted in it
pub hosted_next : (n : ℕ) (es : List Effect) (rooms : Rooms) (c : Cast) → IsCast es rooms c → made_by es ≤ 1 → begun_by es ≤ 1 → length es < 2 ^ 64
    → Numbered (after rooms es) → AreShortRooms (after rooms es) → AreHosted n rooms → AreHosted (n + 1) (unwrap_or c.rooms rooms)
hosted_next n es rooms c is made begun short numbered kept was =
    let now : unwrap_or c.rooms rooms ≡ after rooms es = is.put ∙ (ap (after rooms) is.effects ∙ after_cast es rooms) in
    let counts = after_counts es rooms in
    subst (λ (r : Rooms). AreHosted (n + 1) r) (sym now) (record {
      made = omega (arith, counts.made, was.made, made);
      stays = omega (arith, counts.stays, was.stays, begun);
      items = omega (arith, counts.items, was.items, short);
      numbered = numbered;
      short = kept;
    })
