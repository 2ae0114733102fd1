-- Effects that name one room, which is there, and of sessions those that are in it, fit the rooms.
use Rattle.std.proofs.Common.{◌≡◌, ℕ, ◌+◌, ◌==◌, ◌||◌, List, [], ◌∷◌, ◌++◌, map, sym, refl, ap, ◌∙◌, subst, inl, inr, Bool, true, false, Option, Some, None}
use Rattle.std.proofs.Common.{is_some, if◌then◌else◌}
use Rattle.std.specs.Prelude.{⊤}
use Rattle.std.specs.List.{AllByRecursion}
use Rattle.std.specs.Option.{option_map}
use Rattle.std.proofs.lemmas.Bool.{eqb-true}
use Rattle.jid_core.specs.Addresses.{Address}
use Rattle.stanza_model.specs.declared.effect.Change.{Change}
use Rattle.stanza_model.specs.declared.effect.Change.TheVariants as change
use Rattle.stanza_model.specs.declared.effect.Effect.{Effect}
use Rattle.stanza_model.specs.declared.effect.Effect.TheVariants.{Queue, Broadcast, Enter, Leave, Keep, Set}
use Rattle.stanza_model.specs.declared.room.Role.{Role}
use Rattle.stanza_model.specs.declared.room.Room.{Room}
use Rattle.stanza_model.specs.declared.room.Seat.{Seat}
use Rattle.muc_room.specs.States.{affiliated_if, role_if, set_affiliation, set_role}
use Rattle.muc_service.specs.Casting.{after}
use Rattle.muc_service.specs.Rooms as service
use Rattle.muc_service.specs.Rooms.{Hosted, Rooms, changed, configured, counted, entered, enters, has_subject, leaves, occupied, renamed_if, renames}
use Rattle.muc_service.specs.Rooms.{shown_if, shows, step, unlocked, without_room, without_seat}
use Rattle.house_model.specs.Numbered.{put}
use Rattle.house_model.specs.RoomFits.{AreOf, ChangeIsOf, IsInside, IsOf, IsThere, has_in}
use Rattle.house_model.proofs.HallLemmas.{found, removed_is}
use Rattle.house_model.proofs.SeatLemmas.{seats_kept, seats_left, seats_of, two, without}
use Rattle.house_model.proofs.Sitting.{inside_is, left_sits, not_both, occupied_sits, sits, sits_without}
use Rattle.house_model.proofs.StayHosts.{changed_is, counted_is, one_more, with_change}
use Rattle.house_model.proofs.StayLemmas.{put_both, put_other, put_same}
use Rattle.house_model.proofs.StayLists.{IsCalm, calm_after}
use Rattle.house_model.proofs.StayWhole.{affiliated_seats, renamed_seats, role_seats, same_seats_in, shown_seats}

-- who is in a room, if it is there

abbrev pub crowd : Option Hosted → Option (List Seat)
crowd None = None
crowd (Some h) = Some (seats_of h.room.occupants)

abbrev pub crowd_at : ℕ → Rooms → Option (List Seat)
crowd_at n rooms = crowd (found n rooms.hosted)

put_crowd : (rooms rooms' : Rooms) (n : ℕ) (v : Option Hosted) → ((m : ℕ) → found m rooms'.hosted ≡ put n v (λ k. found k rooms.hosted) m)
    → (m : ℕ) → crowd_at m rooms' ≡ put n (crowd v) (λ k. crowd_at k rooms) m
put_crowd rooms rooms' n v is m = ap crowd (is m) ∙ by (m == n) where
  by : (b : Bool) → crowd (if b then v else found m rooms.hosted) ≡ (if b then crowd v else crowd_at m rooms)
  by true = refl
  by false = refl

put_keeps : {A : Type 0} (n : ℕ) (f : ℕ → A) (j : ℕ) → f j ≡ put n (f n) f j
put_keeps n f j = put_both (λ k (v : _). f k ≡ v) n (f n) f refl (λ k _. refl) j

counted_crowd : (rooms : Rooms) (n j : ℕ) → crowd_at j (counted n rooms) ≡ put n (crowd_at n rooms) (λ k. crowd_at k rooms) j
counted_crowd rooms n j =
    put_crowd rooms (counted n rooms) n (option_map one_more (found n rooms.hosted)) (counted_is n rooms.hosted) j
    ∙ ap (λ (o : Option (List Seat)). put n o (λ k. crowd_at k rooms) j) (same (found n rooms.hosted)) where
      same : (o : Option Hosted) → crowd (option_map one_more o) ≡ crowd o
      same None = refl
      same (Some h) = refl

changed_crowd : (rooms : Rooms) (n : ℕ) (f : Room → Room) (g : List Seat → List Seat) → ((x : Room) → (f x).number ≡ x.number)
    → ((x : Room) → seats_of (f x).occupants ≡ g (seats_of x.occupants)) → (j : ℕ)
    → crowd_at j (changed n f rooms) ≡ put n (option_map g (crowd_at n rooms)) (λ k. crowd_at k rooms) j
changed_crowd rooms n f g number seats j =
    put_crowd rooms (changed n f rooms) n (option_map (with_change f) (found n rooms.hosted)) (changed_is n f rooms.hosted number) j
    ∙ ap (λ (o : Option (List Seat)). put n o (λ k. crowd_at k rooms) j) (mapped (found n rooms.hosted)) where
      mapped : (o : Option Hosted) → crowd (option_map (with_change f) o) ≡ option_map g (crowd o)
      mapped None = refl
      mapped (Some h) = ap Some (seats h.room)

kept_crowd : (rooms : Rooms) (n : ℕ) (f : Room → Room) → ((x : Room) → (f x).number ≡ x.number)
    → ((x : Room) → seats_of (f x).occupants ≡ seats_of x.occupants) → (j : ℕ)
    → crowd_at j (changed n f rooms) ≡ put n (crowd_at n rooms) (λ k. crowd_at k rooms) j
kept_crowd rooms n f number seats j =
    changed_crowd rooms n f (λ l. l) number seats j
    ∙ ap (λ (o : Option (List Seat)). put n o (λ k. crowd_at k rooms) j) (same (crowd_at n rooms)) where
      same : (o : Option (List Seat)) → option_map (λ (l : List Seat). l) o ≡ o
      same None = refl
      same (Some l) = refl

-- Effects that name no other room. One that makes a room, and one by which a session enters, are told apart.

abbrev pub ChangeNames : ℕ → Change → Type 0
ChangeNames n (change.RoomMade m address owner) = ⊥
ChangeNames n (change.RoomGone m) = m ≡ n
ChangeNames n (change.Unlocked m) = m ≡ n
ChangeNames n (change.Configured m config) = m ≡ n
ChangeNames n (change.Affiliated m address a) = m ≡ n
ChangeNames n (change.RoleSet m s role) = m ≡ n
ChangeNames n (change.Renamed m s nick) = m ≡ n
ChangeNames n (change.OccupantShown m s presence) = m ≡ n
ChangeNames n (change.Subject m text stamp) = m ≡ n
ChangeNames n c = ⊤

abbrev pub Names : ℕ → Effect → Type 0
Names n (Queue s to rest origin) = ⊤
Names n (Broadcast m item) = m ≡ n
Names n (Enter m s address nick role) = ⊥
Names n (Leave m s) = m ≡ n
Names n (Keep user peer text moment) = ⊤
Names n (Set c) = ChangeNames n c

-- who is in the room afterwards

abbrev set_by : Change → Option (List Seat) → Option (List Seat)
set_by (change.RoomGone n) o = None
set_by c o = o

abbrev crowd_by : Effect → Option (List Seat) → Option (List Seat)
crowd_by (Leave n s) o = option_map (without s) o
crowd_by (Set c) o = set_by c o
crowd_by e o = o

abbrev IsPut : Rooms → Rooms → ℕ → (ℕ → Option (List Seat)) → ℕ → Type 0
IsPut rooms rooms' j new n = crowd_at j rooms' ≡ put n (new n) (λ k. crowd_at k rooms) j

set_crowd : (rooms : Rooms) (c : Change) (n : ℕ) → ChangeNames n c → (j : ℕ)
    → crowd_at j (service.set c rooms) ≡ put n (set_by c (crowd_at n rooms)) (λ k. crowd_at k rooms) j
set_crowd rooms (change.RoomMade m address owner) n is j = absurd is
set_crowd rooms (change.RoomGone m) n is j =
    subst (IsPut rooms (without_room m rooms) j (λ _. None)) is (put_crowd rooms (without_room m rooms) m None (removed_is m rooms.hosted) j)
set_crowd rooms (change.Unlocked m) n is j =
    subst (IsPut rooms (changed m unlocked rooms) j (λ k. crowd_at k rooms)) is (kept_crowd rooms m unlocked (λ x. refl) (λ x. refl) j)
set_crowd rooms (change.Configured m config) n is j =
    subst (IsPut rooms (changed m (configured config) rooms) j (λ k. crowd_at k rooms)) is
    (kept_crowd rooms m (configured config) (λ x. refl) (λ x. refl) j)
set_crowd rooms (change.Affiliated m address a) n is j =
    subst (IsPut rooms (changed m (set_affiliation address a) rooms) j (λ k. crowd_at k rooms)) is
    (kept_crowd rooms m (set_affiliation address a) (λ x. refl) (same_seats_in (affiliated_if address a) (affiliated_seats address a)) j)
set_crowd rooms (change.RoleSet m s role) n is j =
    subst (IsPut rooms (changed m (set_role s role) rooms) j (λ k. crowd_at k rooms)) is
    (kept_crowd rooms m (set_role s role) (λ x. refl) (same_seats_in (role_if s role) (role_seats s role)) j)
set_crowd rooms (change.Renamed m s nick) n is j =
    subst (IsPut rooms (changed m (renames s nick) rooms) j (λ k. crowd_at k rooms)) is
    (kept_crowd rooms m (renames s nick) (λ x. refl) (same_seats_in (renamed_if s nick) (renamed_seats s nick)) j)
set_crowd rooms (change.OccupantShown m s presence) n is j =
    subst (IsPut rooms (changed m (shows s presence) rooms) j (λ k. crowd_at k rooms)) is
    (kept_crowd rooms m (shows s presence) (λ x. refl) (same_seats_in (shown_if s presence) (shown_seats s presence)) j)
set_crowd rooms (change.Subject m text stamp) n is j =
    subst (IsPut rooms (changed m (has_subject text stamp) rooms) j (λ k. crowd_at k rooms)) is
    (kept_crowd rooms m (has_subject text stamp) (λ x. refl) (λ x. refl) j)
set_crowd rooms c n is j = put_keeps n (λ k. crowd_at k rooms) j

step_crowd : (rooms : Rooms) (e : Effect) (n : ℕ) → Names n e → (j : ℕ)
    → crowd_at j (step e rooms) ≡ put n (crowd_by e (crowd_at n rooms)) (λ k. crowd_at k rooms) j
step_crowd rooms (Queue s to rest origin) n is j = put_keeps n (λ k. crowd_at k rooms) j
step_crowd rooms (Broadcast m item) n is j =
    subst (IsPut rooms (counted m rooms) j (λ k. crowd_at k rooms)) is (counted_crowd rooms m j)
step_crowd rooms (Enter m s address nick role) n is j = absurd is
step_crowd rooms (Leave m s) n is j =
    subst (IsPut rooms (changed m (leaves s) rooms) j (λ k. option_map (without s) (crowd_at k rooms))) is
    (changed_crowd rooms m (leaves s) (without s) (λ x. refl)
    (λ x. seats_kept (map (without_seat s) x.occupants) ∙ seats_left s x.occupants) j)
step_crowd rooms (Keep user peer text moment) n is j = put_keeps n (λ k. crowd_at k rooms) j
step_crowd rooms (Set c) n is j = set_crowd rooms c n is j

-- other rooms are as they were
pub others_kept : (es : List Effect) (rooms : Rooms) (n m : ℕ) → (m ≡ n → ⊥) → AllByRecursion (Names n) es → crowd_at m (after rooms es) ≡ crowd_at m rooms
others_kept [] rooms n m ne all = refl
others_kept (e ∷ es) rooms n m ne all =
    others_kept es (step e rooms) n m ne all.1
    ∙ (step_crowd rooms e n all.0 m ∙ put_other n (crowd_by e (crowd_at n rooms)) (λ k. crowd_at k rooms) m ne)

-- The room is there, and these at least are in it.

pub record Holds (rooms : Rooms) (n : ℕ) (inside : List Seat) : Type 0 where
  pub seats : List Seat
  pub here : crowd_at n rooms ≡ Some seats
  pub all : (s : ℕ) → sits s inside ≡ true → sits s seats ≡ true

pub hosted_holds : (rooms : Rooms) (h : Hosted) → found h.room.number rooms.hosted ≡ Some h → Holds rooms h.room.number (seats_of h.room.occupants)
hosted_holds rooms h is = record { seats = seats_of h.room.occupants; here = ap crowd is; all = λ s sat. sat }

pub kept_holds : (rooms rooms' : Rooms) (n : ℕ) (inside : List Seat) → crowd_at n rooms' ≡ crowd_at n rooms → Holds rooms n inside → Holds rooms' n inside
kept_holds rooms rooms' n inside same holds = record { seats = holds.seats; here = same ∙ holds.here; all = holds.all }

pub fewer_holds : (rooms : Rooms) (n : ℕ) (inside few : List Seat) → ((s : ℕ) → sits s few ≡ true → sits s inside ≡ true) → Holds rooms n inside
    → Holds rooms n few
fewer_holds rooms n inside few are holds = record { seats = holds.seats; here = holds.here; all = λ s is. holds.all s (are s is) }

pub there : (rooms : Rooms) (n : ℕ) (inside : List Seat) → Holds rooms n inside → IsThere rooms n
there rooms n inside holds = by (found n rooms.hosted) holds.here where
  by : (o : Option Hosted) → crowd o ≡ Some holds.seats → is_some o ≡ true
  by None is = absurd (let z : None ≡ Some holds.seats = is in cc)
  by (Some h) is = refl

in_it : (rooms : Rooms) (n : ℕ) (inside : List Seat) (s : ℕ) → Holds rooms n inside → sits s inside ≡ true → IsInside rooms n s
in_it rooms n inside s holds is = by (found n rooms.hosted) holds.here where
  by : (o : Option Hosted) → crowd o ≡ Some holds.seats → has_in s o ≡ true
  by None e = absurd (let z : None ≡ Some holds.seats = e in cc)
  by (Some h) e =
      let z : Some (seats_of h.room.occupants) ≡ Some holds.seats = e in
      let same : seats_of h.room.occupants ≡ holds.seats = cc in
      inside_is s h.room.occupants ∙ (ap (sits s) same ∙ holds.all s is)

-- Effects on it, as long as it is there.

abbrev pub ChangeMeets : ℕ → List Seat → Change → Type 0
ChangeMeets n inside (change.RoomMade m address owner) = ⊥
ChangeMeets n inside (change.RoomGone m) = ⊥
ChangeMeets n inside (change.Unlocked m) = m ≡ n
ChangeMeets n inside (change.Configured m config) = m ≡ n
ChangeMeets n inside (change.Affiliated m address a) = m ≡ n
ChangeMeets n inside (change.RoleSet m s role) = (m ≡ n) × (sits s inside ≡ true)
ChangeMeets n inside (change.Renamed m s nick) = (m ≡ n) × (sits s inside ≡ true)
ChangeMeets n inside (change.OccupantShown m s presence) = (m ≡ n) × (sits s inside ≡ true)
ChangeMeets n inside (change.Subject m text stamp) = m ≡ n
ChangeMeets n inside (change.RoomRow m peer text moment) = m ≡ n
ChangeMeets n inside c = ⊤

abbrev pub Meets : ℕ → List Seat → Effect → Type 0
Meets n inside (Queue s to rest origin) = ⊤
Meets n inside (Broadcast m item) = m ≡ n
Meets n inside (Enter m s address nick role) = ⊥
Meets n inside (Leave m s) = (m ≡ n) × (sits s inside ≡ true)
Meets n inside (Keep user peer text moment) = ⊤
Meets n inside (Set c) = ChangeMeets n inside c

abbrev pub rest_by : Effect → List Seat → List Seat
rest_by (Leave m s) inside = without s inside
rest_by e inside = inside

abbrev pub left_by : List Effect → List Seat → List Seat
left_by [] inside = inside
left_by (e ∷ es) inside = left_by es (rest_by e inside)

abbrev pub AllMeet : ℕ → List Seat → List Effect → Type 0
AllMeet n inside [] = ⊤
AllMeet n inside (e ∷ es) = Meets n inside e × AllMeet n (rest_by e inside) es

set_names : (n : ℕ) (inside : List Seat) (c : Change) → ChangeMeets n inside c → ChangeNames n c
set_names n inside (change.RoomMade m address owner) is = absurd is
set_names n inside (change.RoomGone m) is = absurd is
set_names n inside (change.Unlocked m) is = is
set_names n inside (change.Configured m config) is = is
set_names n inside (change.Affiliated m address a) is = is
set_names n inside (change.RoleSet m s role) is = is.0
set_names n inside (change.Renamed m s nick) is = is.0
set_names n inside (change.OccupantShown m s presence) is = is.0
set_names n inside (change.Subject m text stamp) is = is
set_names n inside (change.RoomRow m peer text moment) is = tt
set_names n inside c is = tt

names : (n : ℕ) (inside : List Seat) (e : Effect) → Meets n inside e → Names n e
names n inside (Queue s to rest origin) is = tt
names n inside (Broadcast m item) is = is
names n inside (Enter m s address nick role) is = absurd is
names n inside (Leave m s) is = is.0
names n inside (Keep user peer text moment) is = tt
names n inside (Set c) is = set_names n inside c is

set_stays : (n : ℕ) (inside : List Seat) (c : Change) → ChangeMeets n inside c → (xs : List Seat) → set_by c (Some xs) ≡ Some xs
set_stays n inside (change.RoomGone m) is xs = absurd is
set_stays n inside c is xs = refl

crowd_stays : (n : ℕ) (inside : List Seat) (e : Effect) → Meets n inside e → (xs : List Seat) → crowd_by e (Some xs) ≡ Some (rest_by e xs)
crowd_stays n inside (Queue s to rest origin) is xs = refl
crowd_stays n inside (Broadcast m item) is xs = refl
crowd_stays n inside (Enter m s address nick role) is xs = absurd is
crowd_stays n inside (Leave m s) is xs = refl
crowd_stays n inside (Keep user peer text moment) is xs = refl
crowd_stays n inside (Set c) is xs = set_stays n inside c is xs

rest_all : (e : Effect) (inside xs : List Seat) → ((s : ℕ) → sits s inside ≡ true → sits s xs ≡ true)
    → (s : ℕ) → sits s (rest_by e inside) ≡ true → sits s (rest_by e xs) ≡ true
rest_all (Leave m q) inside xs all s is =
    let k = left_sits s q inside is in
    sits_without s q xs k.0 (all s k.1)
rest_all (Queue q to rest origin) inside xs all s is = all s is
rest_all (Broadcast m item) inside xs all s is = all s is
rest_all (Enter m q address nick role) inside xs all s is = all s is
rest_all (Keep user peer text moment) inside xs all s is = all s is
rest_all (Set c) inside xs all s is = all s is

step_holds : (rooms : Rooms) (e : Effect) (n : ℕ) (inside : List Seat) → Holds rooms n inside → Meets n inside e → Holds (step e rooms) n (rest_by e inside)
step_holds rooms e n inside holds meets = record {
  seats = rest_by e holds.seats;
  here = step_crowd rooms e n (names n inside e meets) n
      ∙ (put_same n (crowd_by e (crowd_at n rooms)) (λ k. crowd_at k rooms)
      ∙ (ap (crowd_by e) holds.here ∙ crowd_stays n inside e meets holds.seats));
  all = rest_all e inside holds.seats holds.all;
}

set_of : (rooms : Rooms) (c : Change) (n : ℕ) (inside : List Seat) → Holds rooms n inside → ChangeMeets n inside c → ChangeIsOf rooms c
set_of rooms (change.RoomMade m address owner) n inside holds is = absurd is
set_of rooms (change.RoomGone m) n inside holds is = absurd is
set_of rooms (change.Unlocked m) n inside holds is = subst (IsThere rooms) (sym is) (there rooms n inside holds)
set_of rooms (change.Configured m config) n inside holds is = subst (IsThere rooms) (sym is) (there rooms n inside holds)
set_of rooms (change.Affiliated m address a) n inside holds is = subst (IsThere rooms) (sym is) (there rooms n inside holds)
set_of rooms (change.RoleSet m s role) n inside holds is = subst (λ (k : ℕ). IsInside rooms k s) (sym is.0) (in_it rooms n inside s holds is.1)
set_of rooms (change.Renamed m s nick) n inside holds is = subst (λ (k : ℕ). IsInside rooms k s) (sym is.0) (in_it rooms n inside s holds is.1)
set_of rooms (change.OccupantShown m s presence) n inside holds is =
    subst (λ (k : ℕ). IsInside rooms k s) (sym is.0) (in_it rooms n inside s holds is.1)
set_of rooms (change.Subject m text stamp) n inside holds is = subst (IsThere rooms) (sym is) (there rooms n inside holds)
set_of rooms (change.RoomRow m peer text moment) n inside holds is = subst (IsThere rooms) (sym is) (there rooms n inside holds)
set_of rooms c n inside holds is = tt

one_of : (rooms : Rooms) (e : Effect) (n : ℕ) (inside : List Seat) → Holds rooms n inside → Meets n inside e → IsOf rooms e
one_of rooms (Queue s to rest origin) n inside holds is = tt
one_of rooms (Broadcast m item) n inside holds is = subst (IsThere rooms) (sym is) (there rooms n inside holds)
one_of rooms (Enter m s address nick role) n inside holds is = absurd is
one_of rooms (Leave m s) n inside holds is = subst (λ (k : ℕ). IsInside rooms k s) (sym is.0) (in_it rooms n inside s holds is.1)
one_of rooms (Keep user peer text moment) n inside holds is = tt
one_of rooms (Set c) n inside holds is = set_of rooms c n inside holds is

pub all_of : (es : List Effect) (rooms : Rooms) (n : ℕ) (inside : List Seat) → Holds rooms n inside → AllMeet n inside es → AreOf rooms es
all_of [] rooms n inside holds meet = tt
all_of (e ∷ es) rooms n inside holds meet =
    (one_of rooms e n inside holds meet.0, all_of es (step e rooms) n (rest_by e inside) (step_holds rooms e n inside holds meet.0) meet.1)

pub holds_after : (es : List Effect) (rooms : Rooms) (n : ℕ) (inside : List Seat) → Holds rooms n inside → AllMeet n inside es
    → Holds (after rooms es) n (left_by es inside)
holds_after [] rooms n inside holds meet = holds
holds_after (e ∷ es) rooms n inside holds meet =
    holds_after es (step e rooms) n (rest_by e inside) (step_holds rooms e n inside holds meet.0) meet.1

-- One list after another.

pub meet_then : (xs ys : List Effect) (n : ℕ) (inside : List Seat) → AllMeet n inside xs → AllMeet n (left_by xs inside) ys → AllMeet n inside (xs ++ ys)
meet_then [] ys n inside first rest = rest
meet_then (x ∷ xs) ys n inside first rest = (first.0, meet_then xs ys n (rest_by x inside) first.1 rest)

pub left_then : (xs ys : List Effect) (inside : List Seat) → left_by (xs ++ ys) inside ≡ left_by ys (left_by xs inside)
left_then [] ys inside = refl
left_then (x ∷ xs) ys inside = left_then xs ys (rest_by x inside)

pub of_then : (xs ys : List Effect) (rooms : Rooms) → AreOf rooms xs → AreOf (after rooms xs) ys → AreOf rooms (xs ++ ys)
of_then [] ys rooms first rest = rest
of_then (x ∷ xs) ys rooms first rest = (first.0, of_then xs ys (step x rooms) first.1 rest)

-- Effects that name no room.

calm_set : (rooms : Rooms) (c : Change) → IsCalm (Set c) → ChangeIsOf rooms c
calm_set rooms (change.RoomMade n address owner) calm = absurd calm
calm_set rooms (change.RoomGone n) calm = absurd calm
calm_set rooms (change.Unlocked n) calm = absurd calm
calm_set rooms (change.Configured n config) calm = absurd calm
calm_set rooms (change.Affiliated n address a) calm = absurd calm
calm_set rooms (change.RoleSet n s role) calm = absurd calm
calm_set rooms (change.Renamed n s nick) calm = absurd calm
calm_set rooms (change.OccupantShown n s presence) calm = absurd calm
calm_set rooms (change.Subject n text stamp) calm = absurd calm
calm_set rooms (change.RoomRow n peer text moment) calm = absurd calm
calm_set rooms c calm = tt

calm_one : (rooms : Rooms) (e : Effect) → IsCalm e → IsOf rooms e
calm_one rooms (Queue s to rest origin) calm = tt
calm_one rooms (Broadcast n item) calm = absurd calm
calm_one rooms (Enter n s address nick role) calm = absurd calm
calm_one rooms (Leave n s) calm = absurd calm
calm_one rooms (Keep user peer text moment) calm = tt
calm_one rooms (Set c) calm = calm_set rooms c calm

pub calm_of : (es : List Effect) (rooms : Rooms) → AllByRecursion IsCalm es → AreOf rooms es
calm_of [] rooms calm = tt
calm_of (e ∷ es) rooms calm = (
  calm_one rooms e calm.0,
  subst (λ (rs : Rooms). AreOf rs es) (sym (calm_after rooms (e ∷ []) (calm.0, tt))) (calm_of es rooms calm.1),
)

pub calm_then : (xs ys : List Effect) (rooms : Rooms) → AllByRecursion IsCalm xs → AreOf rooms ys → AreOf rooms (xs ++ ys)
calm_then xs ys rooms calm rest =
    of_then xs ys rooms (calm_of xs rooms calm) (subst (λ (rs : Rooms). AreOf rs ys) (sym (calm_after rooms xs calm)) rest)

-- The room goes, and no effect names it after that.

pub gone_of : (es : List Effect) (rooms : Rooms) (n : ℕ) (inside : List Seat) → Holds rooms n inside → AllByRecursion IsCalm es
    → AreOf rooms (Set (change.RoomGone n) ∷ es)
gone_of es rooms n inside holds calm = (there rooms n inside holds, calm_of es (without_room n rooms) calm)

-- A session enters.

pub entered_holds : (rooms : Rooms) (n s : ℕ) (address : Address) (nick : List ℕ) (role : Role) (h : Hosted) → found n rooms.hosted ≡ Some h
    → (x : Seat) → x.session ≡ s → Holds (entered n s address nick role rooms) n (x ∷ [])
entered_holds rooms n s address nick role h is x same =
    let new : Seat = record { session = s; address = address; stay = rooms.stays + 1 } in
    let f : Room → Room = enters new nick role in
    let seats : List Seat = seats_of (occupied new nick role h.room) in
    record {
      seats = seats;
      here = put_crowd rooms (changed n f rooms) n (option_map (with_change f) (found n rooms.hosted)) (changed_is n f rooms.hosted (λ r. refl)) n
          ∙ (put_same n (crowd (option_map (with_change f) (found n rooms.hosted))) (λ k. crowd_at k rooms)
          ∙ ap (λ (o : Option Hosted). crowd (option_map (with_change f) o)) is);
      all = λ q sat. elim (two (x.session == q)) as (λ _. sits q seats ≡ true) [
        | inl e ↦ subst (λ (k : ℕ). sits k seats ≡ true) (sym same ∙ eqb-true x.session q e) (occupied_sits new nick role h.room)
        | inr e ↦ absurd (not_both (sits q (x ∷ [])) sat (ap (λ (b : Bool). b || sits q []) e))
      ];
    }
