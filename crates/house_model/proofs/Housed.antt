-- Those who are in a room are in the house, and what is cast names no other.
use Rattle.std.proofs.Common.{◌≡◌, ℕ, ◌==◌, List, [], ◌∷◌, ◌++◌, map, flat_map, length, not, sym, refl, ◌∙◌, subst, inl, inr, true}
use Rattle.std.proofs.Common.{false, Option, Some, None, IfSome, if◌then◌else◌}
use Rattle.std.specs.List.{AllByRecursion, filter, list_any}
use Rattle.std.proofs.lemmas.Bool.{eqb-true, eq-eqb, ne_eqb}
use Rattle.stanza_model.specs.declared.effect.Change.{Change}
use Rattle.stanza_model.specs.declared.effect.Change.TheVariants as change
use Rattle.stanza_model.specs.declared.effect.Effect as stanza
use Rattle.stanza_model.specs.declared.effect.Effect.TheVariants as effect
use Rattle.stanza_model.specs.declared.room.Affiliation.{Affiliation}
use Rattle.stanza_model.specs.declared.room.Occupant.{Occupant}
use Rattle.stanza_model.specs.declared.room.Role.{Role}
use Rattle.stanza_model.specs.declared.room.Room.{Room}
use Rattle.stanza_model.specs.declared.room.RoomItem.{RoomItem}
use Rattle.stanza_model.specs.declared.room.Seat.{Seat}
use Rattle.muc_room.specs.Seats.{has_nick, has_seat}
use Rattle.muc_room.specs.States.{is_of, affiliated_if, role_if}
use Rattle.muc_service.specs.Casting.{after, cast, copies_for, copies_in, copy_for, heard}
use Rattle.muc_service.specs.Rooms.{Hosted, Rooms, first_or, has_seats, hosted_as, joined_if, newcomer, occupied, renamed_if, shown_if, without_seat}
use Rattle.house_model.specs.Traffic.{Traffic}
use Rattle.house_model.specs.States.{World}
use Rattle.house_model.specs.Fitting.{IsInHouse, EffectFits}
use Rattle.house_model.proofs.Founds.{append_all}
use Rattle.house_model.proofs.RoomCases.{map_all}
use Rattle.house_model.proofs.RoomsKept.{ChangeKeeps, EachRoom, KeepsEach, cast_each, after_each}
use Rattle.house_model.proofs.SeatLemmas.{two}
use Rattle.house_model.proofs.StayLemmas.{choose}

-- each of its sessions passes, and the one whose presence is shown is one of them
abbrev pub Lives : (ℕ → Type 0) → Occupant → Type 0
Lives H o = AllByRecursion (λ (x : Seat). H x.session) o.seats × (has_seat o.spoke o ≡ true)

abbrev pub AllLive : (ℕ → Type 0) → Room → Type 0
AllLive H r = AllByRecursion (Lives H) r.occupants

abbrev pub Housed : World Traffic → Type 0
Housed world = EachRoom (AllLive (λ s. IsInHouse s world)) world.rooms

any_in : (H : ℕ → Type 0) (q : ℕ) (xs : List Seat) → list_any (λ x. x.session == q) xs ≡ true → AllByRecursion (λ (x : Seat). H x.session) xs → H q
any_in H q [] has all = absurd (let z : false ≡ true = has in cc)
any_in H q (x ∷ xs) has all =
    elim (two (x.session == q)) as (λ _. H q) [
      | inl e ↦ subst H (eqb-true x.session q e) all.0
      | inr e ↦ any_in H q xs (rw e at has) all.1
    ]

-- the session whose presence is shown passes too
pub spoke_in : (H : ℕ → Type 0) (o : Occupant) → Lives H o → H o.spoke
spoke_in H o lives = any_in H o.spoke o.seats lives.1 lives.0

any_left : (q : ℕ) (xs ys : List Seat) → list_any (λ x. x.session == q) xs ≡ true → list_any (λ x. x.session == q) (xs ++ ys) ≡ true
any_left q [] ys has = absurd (let z : false ≡ true = has in cc)
any_left q (x ∷ xs) ys has =
    elim (two (x.session == q)) as (λ _. list_any (λ y. y.session == q) ((x ∷ xs) ++ ys) ≡ true) [
      | inl e ↦ rw e refl
      | inr e ↦ rw e (any_left q xs ys (rw e at has))
    ]

pub any_without : (q s : ℕ) (xs : List Seat) → (q ≡ s → ⊥) → list_any (λ x. x.session == q) xs ≡ true
    → list_any (λ x. x.session == q) (filter (λ x. not (x.session == s)) xs) ≡ true
any_without q s [] ne has = has
any_without q s (x ∷ xs) ne has =
    elim (two (x.session == q)) as (λ _. list_any (λ y. y.session == q) (filter (λ y. not (y.session == s)) (x ∷ xs)) ≡ true) [
      | inl e ↦ (
          let t : (x.session == s) ≡ false = ne_eqb x.session s (λ k. ne (sym (eqb-true x.session q e) ∙ k)) in
          rw t (rw e refl))
      | inr e ↦ (
          let later : list_any (λ y. y.session == q) (filter (λ y. not (y.session == s)) xs) ≡ true = any_without q s xs ne (rw e at has) in
          choose (λ (l : List Seat). list_any (λ y. y.session == q) l ≡ true) (not (x.session == s)) (x ∷ filter (λ y. not (y.session == s)) xs)
          (filter (λ y. not (y.session == s)) xs) (λ (_ : _). rw e later) (λ (_ : _). later))
    ]

all_without : (H : ℕ → Type 0) (s : ℕ) (xs : List Seat) → AllByRecursion (λ (x : Seat). H x.session) xs
    → AllByRecursion (λ (x : Seat). H x.session) (filter (λ x. not (x.session == s)) xs)
all_without H s [] all = tt
all_without H s (x ∷ xs) all =
    choose (AllByRecursion (λ (y : Seat). H y.session)) (not (x.session == s)) (x ∷ filter (λ y. not (y.session == s)) xs)
    (filter (λ y. not (y.session == s)) xs)
    (λ (_ : _). (all.0, all_without H s xs all.1)) (λ (_ : _). all_without H s xs all.1)

module _ (H : ℕ → Type 0) where
  role_lives : (s : ℕ) (role : Role) (o : Occupant) → Lives H o → Lives H (role_if s role o)
  role_lives s role o is = choose (Lives H) (has_seat s o) (record o { role = role }) o (λ (_ : _). is) (λ (_ : _). is)

  affiliated_lives : (address : _) (a : Affiliation) (o : Occupant) → Lives H o → Lives H (affiliated_if address a o)
  affiliated_lives address a o is = choose (Lives H) (is_of address o) (record o { affiliation = a }) o (λ (_ : _). is) (λ (_ : _). is)

  renamed_lives : (s : ℕ) (nick : List ℕ) (o : Occupant) → Lives H o → Lives H (renamed_if s nick o)
  renamed_lives s nick o is = choose (Lives H) (has_seat s o) (record o { nick = nick }) o (λ (_ : _). is) (λ (_ : _). is)

  shown_lives : (s : ℕ) (presence : List ℕ) (o : Occupant) → Lives H o → Lives H (shown_if s presence o)
  shown_lives s presence o is =
      choose (Lives H) (has_seat s o) (record o { presence = presence; spoke = s }) o (λ (has : _). (is.0, has)) (λ (_ : _). is)

  joined_lives : (x : Seat) (nick : List ℕ) → H x.session → (o : Occupant) → Lives H o → Lives H (joined_if x nick o)
  joined_lives x nick here o is =
      choose (Lives H) (has_nick nick o) (record o { seats = o.seats ++ x ∷ [] }) o
      (λ (_ : _). (append_all (λ (y : Seat). H y.session) o.seats (x ∷ []) is.0 (here, tt), any_left o.spoke o.seats (x ∷ []) is.1)) (λ (_ : _). is)

  occupied_lives : (x : Seat) (nick : List ℕ) (role : Role) (r : Room) → H x.session → AllLive H r → AllByRecursion (Lives H) (occupied x nick role r)
  occupied_lives x nick role r here all =
      choose (AllByRecursion (Lives H)) (list_any (has_nick nick) r.occupants) (map (joined_if x nick) r.occupants) (r.occupants ++ newcomer r x nick role ∷ [])
      (λ (_ : _). map_all (Lives H) (Lives H) (joined_if x nick) (joined_lives x nick here) r.occupants all)
      (λ (_ : _). append_all (Lives H) r.occupants (newcomer r x nick role ∷ []) all (((here, tt), rw (eq-eqb x.session x.session refl) refl), tt))

  without_lives : (s : ℕ) (o : Occupant) → Lives H o → has_seats (without_seat s o) ≡ true → Lives H (without_seat s o)
  without_lives s o is left = (all_without H s o.seats is.0, spoke (filter (λ x. not (x.session == s)) o.seats) refl) where
    first : (xs : List Seat) → not (length xs == 0) ≡ true → list_any (λ x. x.session == first_or o.spoke xs) xs ≡ true
    first [] some = absurd (let z : false ≡ true = some in cc)
    first (x ∷ xs) some = rw (eq-eqb x.session x.session refl) refl

    spoke : (xs : List Seat) → filter (λ x. not (x.session == s)) o.seats ≡ xs
        → list_any (λ x. x.session == (if o.spoke == s then first_or o.spoke xs else o.spoke)) (filter (λ x. not (x.session == s)) o.seats) ≡ true
    spoke xs same =
        choose (λ (q : ℕ). list_any (λ x. x.session == q) (filter (λ x. not (x.session == s)) o.seats) ≡ true) (o.spoke == s) (first_or o.spoke xs) o.spoke
        (λ (_ : _). subst (λ (l : List Seat). list_any (λ x. x.session == first_or o.spoke l) (filter (λ x. not (x.session == s)) o.seats) ≡ true) same
        (first (filter (λ x. not (x.session == s)) o.seats) left))
        (λ (other : _). any_without o.spoke s o.seats (λ (k : o.spoke ≡ s). let z : true ≡ false = sym (eq-eqb o.spoke s k) ∙ other in cc) is.1)

  left_live : (s : ℕ) (os : List Occupant) → AllByRecursion (Lives H) os → AllByRecursion (Lives H) (filter has_seats (map (without_seat s) os))
  left_live s [] all = tt
  left_live s (o ∷ os) all =
      choose (AllByRecursion (Lives H)) (has_seats (without_seat s o)) (without_seat s o ∷ filter has_seats (map (without_seat s) os))
      (filter has_seats (map (without_seat s) os))
      (λ (left : _). (without_lives s o all.0 left, left_live s os all.1)) (λ (_ : _). left_live s os all.1)

  pub mapped_live : (f : Occupant → Occupant) → ((o : Occupant) → Lives H o → Lives H (f o)) → (os : List Occupant) → AllByRecursion (Lives H) os
      → AllByRecursion (Lives H) (map f os)
  mapped_live f each os all = map_all (Lives H) (Lives H) f each os all

  -- an effect that is fit keeps this
  change_keeps : (c : Change) → ChangeKeeps (AllLive H) c
  change_keeps (change.RoomMade n address owner) = tt
  change_keeps (change.Unlocked n) = λ r all. all
  change_keeps (change.Configured n config) = λ r all. all
  change_keeps (change.Affiliated n address a) = λ r all. mapped_live (affiliated_if address a) (affiliated_lives address a) r.occupants all
  change_keeps (change.RoleSet n s role) = λ r all. mapped_live (role_if s role) (role_lives s role) r.occupants all
  change_keeps (change.Renamed n s nick) = λ r all. mapped_live (renamed_if s nick) (renamed_lives s nick) r.occupants all
  change_keeps (change.OccupantShown n s presence) = λ r all. mapped_live (shown_if s presence) (shown_lives s presence) r.occupants all
  change_keeps (change.Subject n text stamp) = λ r all. all
  change_keeps (change.RoomGone n) = tt
  change_keeps c = tt

  pub keeps_lives : (e : stanza.Effect) → ((n s : ℕ) (address : _) (nick : List ℕ) (role : Role) → e ≡ effect.Enter n s address nick role → H s)
      → KeepsEach (AllLive H) e
  keeps_lives (effect.Queue s to rest origin) enters = tt
  keeps_lives (effect.Broadcast n item) enters = tt
  keeps_lives (effect.Enter n s address nick role) enters =
      λ stay r all. occupied_lives (record { session = s; address = address; stay = stay }) nick role r (enters n s address nick role refl) all
  keeps_lives (effect.Leave n s) enters = λ r all. left_live s r.occupants all
  keeps_lives (effect.Keep user peer text moment) enters = tt
  keeps_lives (effect.Set c) enters = change_keeps c

-- of other sessions

seats_by : (H H' : ℕ → Type 0) → ((q : ℕ) → H q → H' q) → (xs : List Seat) → AllByRecursion (λ (x : Seat). H x.session) xs
    → AllByRecursion (λ (x : Seat). H' x.session) xs
seats_by H H' f [] all = tt
seats_by H H' f (x ∷ xs) all = (f x.session all.0, seats_by H H' f xs all.1)

lives_by : (H H' : ℕ → Type 0) → ((q : ℕ) → H q → H' q) → (os : List Occupant) → AllByRecursion (Lives H) os → AllByRecursion (Lives H') os
lives_by H H' f [] all = tt
lives_by H H' f (o ∷ os) all = ((seats_by H H' f o.seats all.0.0, all.0.1), lives_by H H' f os all.1)

pub housed_by : (H H' : ℕ → Type 0) → ((q : ℕ) → H q → H' q) → (rooms : Rooms) → EachRoom (AllLive H) rooms → EachRoom (AllLive H') rooms
housed_by H H' f rooms each n = by (hosted_as n rooms) (each n) where
  by : (o : Option Hosted) → IfSome o (λ h. AllLive H h.room) → IfSome o (λ h. AllLive H' h.room)
  by None is = tt
  by (Some h) is = lives_by H H' f h.room.occupants is

-- what is cast

module _ (world : World Traffic) where
  abbrev here : ℕ → Type 0
  here s = IsInHouse s world

  fit_keeps : (e : stanza.Effect) → EffectFits world e → KeepsEach (AllLive here) e
  fit_keeps e fits = keeps_lives here e (λ n s address nick role is. entered n s address nick role (subst (EffectFits world) is fits)) where
    entered : (n s : ℕ) (address : _) (nick : List ℕ) (role : Role) → EffectFits world (effect.Enter n s address nick role) → here s
    entered n s address nick role fits = fits

  copies_fit : (h : Hosted) (item : RoomItem) (os : List Occupant) → AllByRecursion (Lives here) os
      → AllByRecursion (EffectFits world) (flat_map (copies_for h item) os)
  copies_fit h item [] all = tt
  copies_fit h item (o ∷ os) all =
      append_all (EffectFits world) (copies_for h item o) (flat_map (copies_for h item) os)
      (map_all (EffectFits world) (λ (x : Seat). here x.session) (copy_for h item o) (λ x is. is) o.seats all.0.0) (copies_fit h item os all.1)

  found_fit : (found : Option Hosted) (item : RoomItem) → IfSome found (λ h. AllLive here h.room) → AllByRecursion (EffectFits world) (copies_in found item)
  found_fit None item is = tt
  found_fit (Some h) item is = copies_fit h item h.room.occupants is

  heard_fit : (rooms : Rooms) (e : stanza.Effect) → EffectFits world e → EachRoom (AllLive here) rooms → AllByRecursion (EffectFits world) (heard rooms e)
  heard_fit rooms (effect.Broadcast n item) fits each = found_fit (hosted_as n rooms) item (each n)
  heard_fit rooms (effect.Queue s to rest origin) fits each = tt
  heard_fit rooms (effect.Enter n s address nick role) fits each = tt
  heard_fit rooms (effect.Leave n s) fits each = tt
  heard_fit rooms (effect.Keep user peer text moment) fits each = tt
  heard_fit rooms (effect.Set c) fits each = tt

  pub cast_fits : (es : List stanza.Effect) (rooms : Rooms) → EachRoom (AllLive here) rooms → AllByRecursion (EffectFits world) es
      → AllByRecursion (EffectFits world) (cast rooms es)
  cast_fits es rooms each all = cast_each (AllLive here) (EffectFits world) fit_keeps heard_fit es rooms each all

  pub after_live : (es : List stanza.Effect) (rooms : Rooms) → EachRoom (AllLive here) rooms → AllByRecursion (EffectFits world) es
      → EachRoom (AllLive here) (after rooms es)
  after_live es rooms each all = after_each (AllLive here) (EffectFits world) fit_keeps heard_fit es rooms each all
