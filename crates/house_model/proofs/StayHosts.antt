-- The rooms after an effect, as stays see them, and that each effect on rooms but a broadcast keeps what holds of all stays.
use Rattle.std.proofs.Common.{◌≡◌, ◌⊎◌, ℕ, ◌+◌, ◌==◌, ◌&&◌, List, [], ◌∷◌, ◌++◌, map, not, sym, refl, ap, ◌∙◌, subst, inl, inr, arith, Bool, true}
use Rattle.std.proofs.Common.{false, Option, Some, None, if◌then◌else◌}
use Rattle.std.specs.List.{filter}
use Rattle.std.specs.Option.{option_map}
use Rattle.std.proofs.lemmas.Bool.{cases_eq, eq-eqb, ne_eqb}
use Rattle.jid_core.specs.Addresses.{Address}
use Rattle.stanza_model.specs.declared.room.Room.{Room}
use Rattle.stanza_model.specs.declared.room.Seat.{Seat}
use Rattle.muc_service.specs.Rooms.{Hosted, Rooms, changed_in, changed, counted_in, counted, leaves, without_seat, with_room, without_room, made_room}
use Rattle.house_model.specs.Numbered.{put}
use Rattle.house_model.specs.Sessions.{Session}
use Rattle.house_model.specs.Traffic.{Traffic}
use Rattle.house_model.specs.Stays.{Logs, closes}
use Rattle.house_model.proofs.StayLemmas.{put_both}
use Rattle.house_model.proofs.SeatLemmas.{seat, seats_of, seats_kept, seats_left, without, seat_without, none_of, each_without, distinct_without}
use Rattle.house_model.proofs.HallLemmas.{found, changed_altered, counted_altered, altered_is, added_is, removed_is}
use Rattle.house_model.proofs.StayGood.{Hall, hall_of, seats_in, items_in, GoodBy, IsSeated}
use Rattle.house_model.proofs.StayRooms.{fewer_good, made_good}

abbrev pub hall_by : List Hosted → (made stays : ℕ) → Hall
hall_by hs made stays = hall_of (record { made = made; stays = stays; hosted = hs })

-- a room is another, as stays see it
pub hall_put : (hs hs' : List Hosted) (made stays n : ℕ) (v : Option Hosted) (seats : List Seat) (items : Option ℕ)
    → ((m : ℕ) → found m hs' ≡ put n v (λ k. found k hs) m) → seats_in v ≡ seats → items_in v ≡ items
    → hall_by hs' made stays ≡ record {
      seats = put n seats (λ r. seats_in (found r hs));
      items = put n items (λ r. items_in (found r hs));
      made = made;
      stays =
          stays;
    }
hall_put hs hs' made stays n v seats items is es ei =
    let s : (m : ℕ) → seats_in (found m hs') ≡ put n seats (λ r. seats_in (found r hs)) m =
    λ m. ap seats_in (is m) ∙ through seats_in v seats es m in
    let t : (m : ℕ) → items_in (found m hs') ≡ put n items (λ r. items_in (found r hs)) m =
    λ m. ap items_in (is m) ∙ through items_in v items ei m in
    λ i. record { seats = λ m. s m i; items = λ m. t m i; made = made; stays = stays } where
      by_case : {B : Type 0} (f : Option Hosted → B) (b : Bool) (v o : Option Hosted) (w : B) → f v ≡ w → f (if b then v else o) ≡ (if b then w else f o)
      by_case f true v o w e = e
      by_case f false v o w e = refl

      through : {B : Type 0} (f : Option Hosted → B) (v : Option Hosted) (w : B) → f v ≡ w → (m : ℕ)
          → f (put n v (λ k. found k hs) m) ≡ put n w (λ r. f (found r hs)) m
      through f v w e m = by_case f (m == n) v (found m hs) w e

put_self : {A : Type 0} (n : ℕ) (f : ℕ → A) → put n (f n) f ≡ f
put_self n f = λ i r. put_both (λ k (v : _). v ≡ f k) n (f n) f refl (λ k _. refl) r i

-- a room of which stays see no change
pub hall_same : (hs hs' : List Hosted) (made stays n : ℕ) (v : Option Hosted)
    → ((m : ℕ) → found m hs' ≡ put n v (λ k. found k hs) m) → seats_in v ≡ seats_in (found n hs) → items_in v ≡ items_in (found n hs)
    → hall_by hs' made stays ≡ hall_by hs made stays
hall_same hs hs' made stays n v is es ei =
    let s : put n (seats_in (found n hs)) (λ r. seats_in (found r hs)) ≡ (λ r. seats_in (found r hs)) = put_self n (λ r. seats_in (found r hs)) in
    let t : put n (items_in (found n hs)) (λ r. items_in (found r hs)) ≡ (λ r. items_in (found r hs)) = put_self n (λ r. items_in (found r hs)) in
    hall_put hs hs' made stays n v (seats_in (found n hs)) (items_in (found n hs)) is es ei
    ∙ (λ i. record { seats = s i; items = t i; made = made; stays = stays })

abbrev pub with_change : (Room → Room) → Hosted → Hosted
with_change f h = record h { room = f h.room }

abbrev pub one_more : Hosted → Hosted
one_more h = record h { items = h.items + 1 }

pub changed_is : (n : ℕ) (f : Room → Room) (hs : List Hosted) → ((x : Room) → (f x).number ≡ x.number)
    → (m : ℕ) → found m (changed_in n f hs) ≡ put n (option_map (with_change f) (found n hs)) (λ k. found k hs) m
changed_is n f hs same m = ap (found m) (changed_altered n f hs) ∙ altered_is n (with_change f) hs (λ h. same h.room) m

pub counted_is : (n : ℕ) (hs : List Hosted) (m : ℕ) → found m (counted_in n hs) ≡ put n (option_map one_more (found n hs)) (λ k. found k hs) m
counted_is n hs m = ap (found m) (counted_altered n hs) ∙ altered_is n one_more hs (λ h. refl) m

seats_map_in : (f : Room → Room) (g : List Seat → List Seat) → g [] ≡ [] → ((x : Room) → seats_of (f x).occupants ≡ g (seats_of x.occupants))
    → (o : Option Hosted) → seats_in (option_map (with_change f) o) ≡ g (seats_in o)
seats_map_in f g none same None = sym none
seats_map_in f g none same (Some h) = same h.room

items_map_in : (f : Room → Room) (o : Option Hosted) → items_in (option_map (with_change f) o) ≡ items_in o
items_map_in f None = refl
items_map_in f (Some h) = refl

-- a change of a room that keeps its seats
pub quiet_hall : (rooms : Rooms) (n : ℕ) (f : Room → Room) → ((x : Room) → (f x).number ≡ x.number)
    → ((x : Room) → seats_of (f x).occupants ≡ seats_of x.occupants)
    → hall_of (changed n f rooms) ≡ hall_of rooms
quiet_hall rooms n f number same =
    hall_same rooms.hosted (changed_in n f rooms.hosted) rooms.made rooms.stays n (option_map (with_change f) (found n rooms.hosted))
    (changed_is n f rooms.hosted number) (seats_map_in f (λ l. l) refl same (found n rooms.hosted)) (items_map_in f (found n rooms.hosted))

-- an item that a room broadcasts, where there is the room, and where there isn't
pub counted_hall : (rooms : Rooms) (n : ℕ) (h : Hosted) → found n rooms.hosted ≡ Some h
    → hall_of (counted n rooms) ≡ record (hall_of rooms) { items = put n (Some (h.items + 1)) (hall_of rooms).items }
counted_hall rooms n h is =
    let v : Option Hosted = option_map one_more (found n rooms.hosted) in
    let some : v ≡ Some (record h { items = h.items + 1 }) = ap (option_map one_more) is in
    let s : put n (seats_in (found n rooms.hosted)) (λ r. seats_in (found r rooms.hosted)) ≡ (λ r. seats_in (found r rooms.hosted)) =
    put_self n (λ r. seats_in (found r rooms.hosted)) in
    hall_put rooms.hosted (counted_in n rooms.hosted) rooms.made rooms.stays n v (seats_in (found n rooms.hosted)) (Some (h.items + 1))
    (counted_is n rooms.hosted)
    (ap seats_in some ∙ sym (ap seats_in is)) (ap items_in some)
    ∙ (λ i. record (hall_of rooms) { seats = s i; items = put n (Some (h.items + 1)) (hall_of rooms).items })

pub uncounted_hall : (rooms : Rooms) (n : ℕ) → found n rooms.hosted ≡ None → hall_of (counted n rooms) ≡ hall_of rooms
uncounted_hall rooms n is =
    let v : Option Hosted = option_map one_more (found n rooms.hosted) in
    let none : v ≡ None = ap (option_map one_more) is in
    hall_same rooms.hosted (counted_in n rooms.hosted) rooms.made rooms.stays n v (counted_is n rooms.hosted)
    (ap seats_in none ∙ sym (ap seats_in is)) (ap items_in none ∙ sym (ap items_in is))

-- the effects

module _ (made : ℕ) (sessions : ℕ → Session Traffic) (rooms : Rooms) (logs : Logs) (good : GoodBy (λ _. logs.order) made sessions (hall_of rooms) logs) where
  -- Leave
  pub leave_good : (n s : ℕ) → GoodBy (λ _. logs.order) made sessions (hall_of (changed n (leaves s) rooms)) (closes (λ q r. (q == s) && (r == n)) logs)
  leave_good n s =
      let hall : Hall = hall_of rooms in
      let among : ℕ → ℕ → Bool = λ q r. (q == s) && (r == n) in
      let all : List Seat = hall.seats n in
      let path : hall_of (changed n (leaves s) rooms) ≡ record hall { seats = put n (without s all) hall.seats; items = put n (hall.items n) hall.items } =
      hall_put rooms.hosted (changed_in n (leaves s) rooms.hosted) rooms.made rooms.stays n (option_map (with_change (leaves s)) (found n rooms.hosted))
      (without s all) (hall.items n)
      (changed_is n (leaves s) rooms.hosted (λ x. refl))
      (seats_map_in (leaves s) (without s) refl (λ x. seats_kept (map (without_seat s) x.occupants) ∙ seats_left s x.occupants) (found n rooms.hosted))
      (items_map_in (leaves s) (found n rooms.hosted)) in
      subst (λ (z : Hall). GoodBy (λ _. logs.order) made sessions z (closes among logs)) (sym path)
      (fewer_good made sessions hall logs n (without s all) (put n (hall.items n) hall.items) among
      (λ j i at. elim (cases_eq j s) as (λ _. (seat j all ≡ Some i) × (among j n ≡ false)) [
        | inl e ↦ absurd (let z : None ≡ Some i = sym (none_of s all) ∙ subst (λ (m : ℕ). seat m (without s all) ≡ Some i) e at in cc)
        | inr ne ↦ (sym (seat_without s j all ne) ∙ at, (let t : (j == s) ≡ false = ne_eqb j s ne in rw t refl))
      ])
      (λ j i at apart. elim (cases_eq j s) as (λ _. seat j (without s all) ≡ Some i) [
        | inl e ↦ absurd (
            let t : (j == s) ≡ true = eq-eqb j s e in
            let u : (n == n) ≡ true = eq-eqb n n refl in
            let bad : among j n ≡ true = rw (t, u) refl in
            (let z : true ≡ false = sym bad ∙ apart in cc))
        | inr ne ↦ seat_without s j all ne ∙ at
      ])
      (λ j r ne. (let t : (r == n) ≡ false = ne_eqb r n ne in and_false (j == s) (r == n) t))
      (each_without (IsSeated made sessions hall.stays) s all (good.seated n))
      (distinct_without s all (good.distinct n))
      (λ r. inl (put_both (λ k (v : Option ℕ). v ≡ hall.items k) n (hall.items n) hall.items refl (λ k _. refl) r))
      good) where
        and_false : (b c : Bool) → c ≡ false → (b && c) ≡ false
        and_false true c e = e
        and_false false c e = refl

  -- RoomGone
  pub gone_good : (n : ℕ) → GoodBy (λ _. logs.order) made sessions (hall_of (without_room n rooms)) (closes (λ q r. r == n) logs)
  gone_good n =
      let hall : Hall = hall_of rooms in
      let among : ℕ → ℕ → Bool = λ q r. r == n in
      let path : hall_of (without_room n rooms) ≡ record hall { seats = put n [] hall.seats; items = put n None hall.items } =
      hall_put rooms.hosted (filter (λ h. not (h.room.number == n)) rooms.hosted) rooms.made rooms.stays n None [] None (removed_is n rooms.hosted) refl refl in
      subst (λ (z : Hall). GoodBy (λ _. logs.order) made sessions z (closes among logs)) (sym path)
      (fewer_good made sessions hall logs n [] (put n None hall.items) among
      (λ j i at. absurd (let z : None ≡ Some i = at in cc))
      (λ j i at apart. absurd (let z : true ≡ false = sym (eq-eqb n n refl) ∙ apart in cc))
      (λ j r ne. ne_eqb r n ne)
      tt tt
      (put_both (λ k (v : Option ℕ). (v ≡ hall.items k) ⊎ (v ≡ None)) n None hall.items (inr refl) (λ k _. inl refl))
      good)

  -- RoomMade
  pub room_good : (n : ℕ) (address owner : Address) → n ≡ rooms.made + 1
      → GoodBy (λ _. logs.order) made sessions (hall_of (with_room n address owner rooms)) logs
  room_good n address owner is =
      let hall : Hall = hall_of rooms in
      let new : Hosted = record { room = made_room n address owner; items = 0 } in
      let out : found n rooms.hosted ≡ None = none_found (found n rooms.hosted) (good.fresh n (omega arith)).0 in
      let s : put n (seats_in (found n rooms.hosted)) hall.seats ≡ hall.seats = put_self n hall.seats in
      let path : hall_of (with_room n address owner rooms) ≡ record hall { items = put n (Some 0) hall.items; made = rooms.made + 1 } =
      hall_put rooms.hosted (rooms.hosted ++ new ∷ []) (rooms.made + 1) rooms.stays n (Some new) (seats_in (found n rooms.hosted)) (Some 0)
      (added_is new rooms.hosted out)
      (sym (ap seats_in out)) refl
      ∙ (λ i. record hall { seats = s i; items = put n (Some 0) hall.items; made = rooms.made + 1 }) in
      subst (λ (z : Hall). GoodBy (λ _. logs.order) made sessions z logs) (sym path)
      (subst (λ (m : ℕ). GoodBy (λ _. logs.order) made sessions (record hall { items = put m (Some 0) hall.items; made = rooms.made + 1 }) logs) (sym is)
      (made_good made sessions hall logs good)) where
        none_found : (o : Option Hosted) → items_in o ≡ None → o ≡ None
        none_found None e = refl
        none_found (Some h) e = absurd (let z : Some h.items ≡ None = e in cc)
