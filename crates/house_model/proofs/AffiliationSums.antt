-- The affiliations of each room keep to their limit in all, as long as each that is set does so when its turn comes.
use Rattle.std.proofs.Common.{◌≡◌, ℕ, ◌+◌, ◌≤◌, ◌==◌, List, [], ◌∷◌, ◌++◌, map, length, sum, not, sym, refl, ap, ◌∙◌, subst, arith}
use Rattle.std.proofs.Common.{codes, Bool, true, false, Option, Some, None, IfSome, if◌then◌else◌}
use Rattle.std.specs.Prelude.{⊤}
use Rattle.std.specs.List.{AllByRecursion}
use Rattle.std.specs.Option.{option_map}
use Rattle.std.proofs.lemmas.List.Sums.{sum_by-cons}
use Rattle.jid_core.specs.Addresses.{Address, address_text}
use Rattle.stanza_tree.specs.declared.node.Attr.{Attr}
use Rattle.stanza_tree.proofs.Bounds.{length-value_text-le}
use Rattle.stanza_model.specs.Errors.{plain_attr}
use Rattle.stanza_model.specs.Rooms.{affiliation_name}
use Rattle.stanza_model.specs.declared.effect.Change.{Change}
use Rattle.stanza_model.specs.declared.effect.Change.TheVariants as change
use Rattle.stanza_model.specs.declared.effect.Effect.{Effect}
use Rattle.stanza_model.specs.declared.effect.Effect.TheVariants.{Queue, Broadcast, Enter, Leave, Keep, Set}
use Rattle.stanza_model.specs.declared.room.Affiliated.{Affiliated}
use Rattle.stanza_model.specs.declared.room.Affiliation.TheVariants.{Owner}
use Rattle.stanza_model.specs.declared.room.Room.{Room}
use Rattle.muc_room.specs.States.{set_affiliation, set_role, with_affiliation}
use Rattle.muc_admin.specs.Items.{admin_space}
use Rattle.muc_admin.specs.Listings as admin
use Rattle.muc_service.specs.Casting.{after}
use Rattle.muc_service.specs.Rooms as service
use Rattle.muc_service.specs.Rooms.{Hosted, Rooms, changed_in, configured, counted_in, enters, has_subject, leaves, made_room, renames, shows, step, unlocked}
use Rattle.house_model.specs.Fitting.{AreShortRooms, IsShortAddress, IsShortRoom}
use Rattle.house_model.specs.Numbered.{put}
use Rattle.house_model.proofs.Founds.{append_all, filter_all}
use Rattle.house_model.proofs.HallLemmas.{found}
use Rattle.house_model.proofs.ReplySizes.{plain-attributes, plain-declared, under-le}
use Rattle.house_model.proofs.RoomCases.{found_all}
use Rattle.house_model.proofs.RoomsShort.{AreShortBodies, IsShortBody}
use Rattle.house_model.proofs.StayHosts.{changed_is, counted_is, one_more, with_change}
use Rattle.house_model.proofs.StayLemmas.{choose, put_both, put_same}

-- a list of affiliations that isn't too large
abbrev pub IsModest : List Affiliated → Type 0
IsModest known = sum (map admin.counted known) ≤ admin.most_text

abbrev HasModest : Hosted → Type 0
HasModest h = IsModest h.room.affiliations

abbrev pub AreModest : Rooms → Type 0
AreModest rooms = AllByRecursion HasModest rooms.hosted

-- the room of a number, where one has it
abbrev pub At : ℕ → (Room → Type 0) → List Hosted → Type 0
At n V hs = IfSome (found n hs) (λ h. V h.room)

-- what an effect makes of the affiliations isn't too large
abbrev pub ChangeKeepsSum : Rooms → Change → Type 0
ChangeKeepsSum rooms (change.RoomMade n address owner) = IsShortAddress owner
ChangeKeepsSum rooms (change.Affiliated n address a) = At n (λ r. IsModest (with_affiliation address a r.affiliations)) rooms.hosted
ChangeKeepsSum rooms c = ⊤

abbrev pub KeepsSum : Rooms → Effect → Type 0
KeepsSum rooms (Queue s to rest origin) = ⊤
KeepsSum rooms (Broadcast n item) = ⊤
KeepsSum rooms (Enter n s address nick role) = ⊤
KeepsSum rooms (Leave n s) = ⊤
KeepsSum rooms (Keep user peer text moment) = ⊤
KeepsSum rooms (Set c) = ChangeKeepsSum rooms c

-- each effect, by the rooms as they are when its turn comes
abbrev pub AllKeepSums : Rooms → List Effect → Type 0
AllKeepSums rooms [] = ⊤
AllKeepSums rooms (e ∷ more) = KeepsSum rooms e × AllKeepSums (step e rooms) more

-- one room is another

changed_modest : (n : ℕ) (f : Room → Room) (hs : List Hosted) → At n (λ r. IsModest (f r).affiliations) hs → AllByRecursion HasModest hs
    → AllByRecursion HasModest (changed_in n f hs)
changed_modest n f [] is all = tt
changed_modest n f (h ∷ hs) is all = by (h.room.number == n) (λ later. changed_modest n f hs later all.1) is
  where
    by : (b : Bool) → (At n (λ r. IsModest (f r).affiliations) hs → AllByRecursion HasModest (changed_in n f hs))
        → IfSome (if b then Some h else found n hs) (λ x. IsModest (f x.room).affiliations)
        → AllByRecursion HasModest (if b then record h { room = f h.room } ∷ hs else h ∷ changed_in n f hs)
    by true rest here = (here, all.1)
    by false rest later = (all.0, rest later)

counted_modest : (n : ℕ) (hs : List Hosted) → AllByRecursion HasModest hs → AllByRecursion HasModest (counted_in n hs)
counted_modest n [] all = tt
counted_modest n (h ∷ hs) all =
    choose (AllByRecursion HasModest) (h.room.number == n) (record h { items = h.items + 1 } ∷ hs) (h ∷ counted_in n hs)
    (λ (_ : _). all) (λ (_ : _). (all.0, counted_modest n hs all.1))

-- a new room has its owner alone
owner_modest : (owner : Address) → IsShortAddress owner → IsModest (record { address = owner; affiliation = Owner } ∷ [])
owner_modest owner short =
    let l1 : List Attr = plain_attr (codes "jid") (address_text owner) ∷ [] in
    let one : Affiliated = record { address = owner; affiliation = Owner } in
    omega (
      arith,
      short,
      sum_by-cons (λ n. n) (admin.counted one) [],
      under-le admin_space admin_space (codes "item") (plain_attr (codes "affiliation") (affiliation_name Owner) ∷ l1) [],
      plain-attributes (codes "affiliation") (affiliation_name Owner) l1,
      plain-attributes (codes "jid") (address_text owner) [],
      ap length (plain-declared (codes "affiliation") (affiliation_name Owner) l1),
      ap length (plain-declared (codes "jid") (address_text owner) []),
      length-value_text-le (affiliation_name Owner),
      length-value_text-le (address_text owner),
    )

module _ (rooms : Rooms) (all : AreModest rooms) where
  -- the room that a number finds is one of them
  there : (n : ℕ) → IfSome (found n rooms.hosted) HasModest
  there n = found_all HasModest (λ h. h.room.number == n) rooms.hosted all

  set_modest : (c : Change) → ChangeKeepsSum rooms c → AreModest (service.set c rooms)
  set_modest (change.RoomMade n address owner) keeps =
      append_all HasModest rooms.hosted (record { room = made_room n address owner; items = 0 } ∷ []) all (owner_modest owner keeps, tt)
  set_modest (change.RoomGone n) keeps = filter_all HasModest (λ h. not (h.room.number == n)) rooms.hosted all
  set_modest (change.Unlocked n) keeps = changed_modest n unlocked rooms.hosted (there n) all
  set_modest (change.Configured n config) keeps = changed_modest n (configured config) rooms.hosted (there n) all
  set_modest (change.Affiliated n address a) keeps = changed_modest n (set_affiliation address a) rooms.hosted keeps all
  set_modest (change.RoleSet n s role) keeps = changed_modest n (set_role s role) rooms.hosted (there n) all
  set_modest (change.Renamed n s nick) keeps = changed_modest n (renames s nick) rooms.hosted (there n) all
  set_modest (change.OccupantShown n s presence) keeps = changed_modest n (shows s presence) rooms.hosted (there n) all
  set_modest (change.Subject n text stamp) keeps = changed_modest n (has_subject text stamp) rooms.hosted (there n) all
  set_modest c keeps = all

  step_modest : (e : Effect) → KeepsSum rooms e → AreModest (step e rooms)
  step_modest (Queue s to rest origin) keeps = all
  step_modest (Broadcast n item) keeps = counted_modest n rooms.hosted all
  step_modest (Enter n s address nick role) keeps =
      changed_modest n (enters (record { session = s; address = address; stay = rooms.stays + 1 }) nick role) rooms.hosted (there n) all
  step_modest (Leave n s) keeps = changed_modest n (leaves s) rooms.hosted (there n) all
  step_modest (Keep user peer text moment) keeps = all
  step_modest (Set c) keeps = set_modest c keeps

pub after_modest : (es : List Effect) (rooms : Rooms) → AllKeepSums rooms es → AreModest rooms → AreModest (after rooms es)
after_modest [] rooms keep all = all
after_modest (e ∷ es) rooms keep all = after_modest es (step e rooms) keep.1 (step_modest rooms all e keep.0)

-- the parts of a short room

pub modest_of : (hs : List Hosted) → AllByRecursion (λ (h : Hosted). IsShortRoom h.room) hs → AllByRecursion HasModest hs
modest_of [] all = tt
modest_of (h ∷ hs) all = (all.0.affiliations, modest_of hs all.1)

whole_of : (hs : List Hosted) → AllByRecursion (λ (h : Hosted). IsShortBody h.room) hs → AllByRecursion HasModest hs
    → AllByRecursion (λ (h : Hosted). IsShortRoom h.room) hs
whole_of [] bodies modest = tt
whole_of (h ∷ hs) bodies modest = (
  record {
    address = bodies.0.address;
    title = bodies.0.config.title;
    secret = bodies.0.config.secret;
    most = bodies.0.config.most;
    affiliations = modest.0;
    occupants = bodies.0.occupants;
    subject = bodies.0.subject;
  },
  whole_of hs bodies.1 modest.1,
)

pub wholly_short : (rooms : Rooms) → AreShortBodies rooms → AreModest rooms → AreShortRooms rooms
wholly_short rooms bodies modest = whole_of rooms.hosted bodies modest

-- Effects that change no affiliation and make and end no room.

abbrev pub TameChange : Change → Type 0
TameChange (change.RoleSet n s role) = ⊤
TameChange c = ⊥

abbrev pub Tame : Effect → Type 0
Tame (Queue s to rest origin) = ⊤
Tame (Broadcast n item) = ⊤
Tame (Enter n s address nick role) = ⊥
Tame (Leave n s) = ⊤
Tame (Keep user peer text moment) = ⊤
Tame (Set c) = TameChange c

set_sum : (rooms : Rooms) (c : Change) → TameChange c → ChangeKeepsSum rooms c
set_sum rooms (change.RoomMade n address owner) tame = absurd tame
set_sum rooms (change.Affiliated n address a) tame = absurd tame
set_sum rooms c tame = tt

pub tame_sum : (rooms : Rooms) (e : Effect) → Tame e → KeepsSum rooms e
tame_sum rooms (Queue s to rest origin) tame = tt
tame_sum rooms (Broadcast n item) tame = tt
tame_sum rooms (Enter n s address nick role) tame = tt
tame_sum rooms (Leave n s) tame = tt
tame_sum rooms (Keep user peer text moment) tame = tt
tame_sum rooms (Set c) tame = set_sum rooms c tame

-- The room of a number has these affiliations.

abbrev pub Knows : ℕ → List Affiliated → List Hosted → Type 0
Knows m l hs = At m (λ r. r.affiliations ≡ l) hs

module _ (m : ℕ) (l : List Affiliated) where
  abbrev W : Option Hosted → Type 0
  W o = IfSome o (λ h. h.room.affiliations ≡ l)

  -- a change of any room, by which it has the affiliations that it had
  put_knows : (n : ℕ) (g : Hosted → Hosted) (hs : List Hosted) → ((h : Hosted) → (g h).room.affiliations ≡ h.room.affiliations)
      → Knows m l hs → W (put n (option_map g (found n hs)) (λ k. found k hs) m)
  put_knows n g hs same is =
      put_both (λ k (o : Option Hosted). k ≡ m → W o) n (option_map g (found n hs)) (λ k. found k hs)
      (λ (e : n ≡ m). mapped (found n hs) (subst (λ (k : ℕ). W (found k hs)) (sym e) is))
      (λ k _ (e : k ≡ m). subst (λ (j : ℕ). W (found j hs)) (sym e) is) m refl
    where
      mapped : (o : Option Hosted) → W o → W (option_map g o)
      mapped None is = tt
      mapped (Some h) is = same h ∙ is

  changed_knows : (n : ℕ) (f : Room → Room) (hs : List Hosted) → ((x : Room) → (f x).number ≡ x.number)
      → ((x : Room) → (f x).affiliations ≡ x.affiliations) → Knows m l hs → Knows m l (changed_in n f hs)
  changed_knows n f hs number same is =
      subst W (sym (changed_is n f hs number m)) (put_knows n (with_change f) hs (λ h. same h.room) is)

  counted_knows : (n : ℕ) (hs : List Hosted) → Knows m l hs → Knows m l (counted_in n hs)
  counted_knows n hs is = subst W (sym (counted_is n hs m)) (put_knows n one_more hs (λ h. refl) is)

  set_knows : (rooms : Rooms) (c : Change) → TameChange c → Knows m l rooms.hosted → Knows m l (service.set c rooms).hosted
  set_knows rooms (change.RoleSet n s role) tame is = changed_knows n (set_role s role) rooms.hosted (λ x. refl) (λ x. refl) is
  set_knows rooms c tame is = absurd tame

  pub tame_knows : (rooms : Rooms) (e : Effect) → Tame e → Knows m l rooms.hosted → Knows m l (step e rooms).hosted
  tame_knows rooms (Queue s to rest origin) tame is = is
  tame_knows rooms (Broadcast n item) tame is = counted_knows n rooms.hosted is
  tame_knows rooms (Enter n s address nick role) tame is = absurd tame
  tame_knows rooms (Leave n s) tame is = changed_knows n (leaves s) rooms.hosted (λ x. refl) (λ x. refl) is
  tame_knows rooms (Keep user peer text moment) tame is = is
  tame_knows rooms (Set c) tame is = set_knows rooms c tame is

  -- an affiliation of its own
  pub affiliated_knows : (address : Address) (a : _) (rooms : Rooms) → Knows m l rooms.hosted
      → Knows m (with_affiliation address a l) (service.set (change.Affiliated m address a) rooms).hosted
  affiliated_knows address a rooms is =
      subst (λ (o : Option Hosted). IfSome o (λ h. h.room.affiliations ≡ with_affiliation address a l))
      (sym (changed_is m (set_affiliation address a) rooms.hosted (λ x. refl) m
      ∙ put_same m (option_map (with_change (set_affiliation address a)) (found m rooms.hosted)) (λ k. found k rooms.hosted)))
      (mapped (found m rooms.hosted) is)
    where
      mapped : (o : Option Hosted) → W o
          → IfSome (option_map (with_change (set_affiliation address a)) o) (λ h. h.room.affiliations ≡ with_affiliation address a l)
      mapped None is = tt
      mapped (Some h) is = ap (with_affiliation address a) is

  pub affiliated_sum : (address : Address) (a : _) (rooms : Rooms) → Knows m l rooms.hosted → IsModest (with_affiliation address a l)
      → KeepsSum rooms (Set (change.Affiliated m address a))
  affiliated_sum address a rooms is few = by (found m rooms.hosted) is
    where
      by : (o : Option Hosted) → W o → IfSome o (λ h. IsModest (with_affiliation address a h.room.affiliations))
      by None is = tt
      by (Some h) is = subst (λ (k : List Affiliated). IsModest (with_affiliation address a k)) (sym is) few

  -- and then come others
  pub tame_then : (es : List Effect) → AllByRecursion Tame es → (rooms : Rooms) (more : List Effect) → Knows m l rooms.hosted
      → ((rs : Rooms) → Knows m l rs.hosted → AllKeepSums rs more) → AllKeepSums rooms (es ++ more)
  tame_then [] all rooms more is later = later rooms is
  tame_then (e ∷ es) all rooms more is later =
      (tame_sum rooms e all.0, tame_then es all.1 (step e rooms) more (tame_knows rooms e all.0 is) later)
