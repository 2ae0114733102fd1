-- A session that may enter a room is one seat more there.
use Rattle.std.proofs.Common.{◌≡◌, ℕ, ◌+◌, ◌==◌, ◌||◌, List, [], ◌∷◌, ◌++◌, map, length, sym, refl, ap, ◌∙◌, subst, inl, inr, Bool, true, false}
use Rattle.std.proofs.Common.{Option, Some, None, is_some}
use Rattle.std.specs.List.{find, list_any}
use Rattle.std.specs.Option.{option_map}
use Rattle.std.proofs.lemmas.List.{append-nil}
use Rattle.std.proofs.lemmas.Grind.{flat_map-append}
use Rattle.jid_core.specs.Addresses.{Address}
use Rattle.stanza_model.specs.declared.room.Occupant.{Occupant}
use Rattle.stanza_model.specs.declared.room.Role.{Role}
use Rattle.stanza_model.specs.declared.room.Room.{Room}
use Rattle.stanza_model.specs.declared.room.Seat.{Seat}
use Rattle.muc_room.specs.Seats.{has_nick, has_seat}
use Rattle.muc_service.specs.Rooms.{Hosted, Rooms, changed_in, enters, entered, joined_if, newcomer, occupied}
use Rattle.house_model.specs.Numbered.{put}
use Rattle.house_model.specs.Traffic.{Traffic}
use Rattle.house_model.specs.States.{World}
use Rattle.house_model.specs.Stays.{Logs, begins, takes_entries}
use Rattle.house_model.specs.Casts.{MayEnter, addresses_in}
use Rattle.house_model.proofs.StayLemmas.{put_both}
use Rattle.house_model.proofs.SeatLemmas.{seat, seats_of, two}
use Rattle.house_model.proofs.HallLemmas.{found, AtMostOne, IsInserted, one_joins}
use Rattle.house_model.proofs.StayGood.{Hall, hall_of, seats_in, items_in, Good, GoodBy}
use Rattle.house_model.proofs.StayRooms.{enter_good}
use Rattle.house_model.proofs.StayHosts.{hall_put, changed_is, with_change}

-- a session that isn't in a room has no seat there

pub neither : (b c : Bool) → (b || c) ≡ false → (b ≡ false) × (c ≡ false)
neither true c h = absurd (let z : true ≡ false = h in cc)
neither false c h = (refl, h)

seat_past : (s : ℕ) (xs ys : List Seat) → list_any (λ seat. seat.session == s) xs ≡ false → seat s (xs ++ ys) ≡ seat s ys
seat_past s [] ys h = refl
seat_past s (x ∷ xs) ys h =
    let k = neither (x.session == s) (list_any (λ seat. seat.session == s) xs) h in
    (let t : (x.session == s) ≡ false = k.0 in rw t (seat_past s xs ys k.1))

pub outside_seats : (s : ℕ) (os : List Occupant) → is_some (find (has_seat s) os) ≡ false → seat s (seats_of os) ≡ None
outside_seats s [] h = refl
outside_seats s (o ∷ os) h =
    elim (two (has_seat s o)) as (λ _. seat s (seats_of (o ∷ os)) ≡ None) [
      | inl e ↦ absurd (let z : true ≡ false = rw e at h in cc)
      | inr e ↦ seat_past s o.seats (seats_of os) e ∙ outside_seats s os (rw e at h)
    ]

joins_room : (x : Seat) (nick : List ℕ) (role : Role) (room : Room) → AtMostOne (has_nick nick) room.occupants
    → IsInserted x (seats_of room.occupants) (seats_of (occupied x nick role room))
joins_room x nick role room few =
    elim (two (list_any (has_nick nick) room.occupants)) as (λ _. IsInserted x (seats_of room.occupants) (seats_of (occupied x nick role room))) [
      | inl e ↦ (
          let same : occupied x nick role room ≡ map (joined_if x nick) room.occupants = rw e refl in
          subst (λ (os : List Occupant). IsInserted x (seats_of room.occupants) (seats_of os)) (sym same)
          (one_joins x nick room.occupants e few))
      | inr e ↦ (
          let same : occupied x nick role room ≡ room.occupants ++ newcomer room x nick role ∷ [] = rw e refl in
          subst (λ (os : List Occupant). IsInserted x (seats_of room.occupants) (seats_of os)) (sym same)
          (record {
            before = seats_of room.occupants;
            after = [];
            old = sym (append-nil (seats_of room.occupants));
            new = flat_map-append (λ (o : Occupant). o.seats) room.occupants (newcomer room x nick role ∷ []);
          }))
    ]

pub entering_good : (world : World Traffic) (logs : Logs) (n s : ℕ) (address : Address) (nick : List ℕ) (role : Role)
    → MayEnter world.made (addresses_in world) world.rooms n s address nick
    → ((h : Hosted) → found n world.rooms.hosted ≡ Some h → AtMostOne (has_nick nick) h.room.occupants) → Good world logs
    → GoodBy (λ _. logs.order) world.made world.sessions (hall_of (entered n s address nick role world.rooms))
    (record logs { stays = put (world.rooms.stays + 1) (begins (takes_entries (world.sessions s)) s n (length (logs.order n))) logs.stays })
entering_good world logs n s address nick role may one good =
    let rooms : Rooms = world.rooms in
    let hall : Hall = hall_of rooms in
    let h : Hosted = may.host in
    let is : found n rooms.hosted ≡ Some h = may.hosted in
    let x : Seat = record { session = s; address = address; stay = rooms.stays + 1 } in
    let room : List Seat = seats_of (occupied x nick role h.room) in
    let v : Option Hosted = option_map (with_change (enters x nick role)) (found n rooms.hosted) in
    let some : v ≡ Some (with_change (enters x nick role) h) = ap (option_map (with_change (enters x nick role))) is in
    let same : put n (hall.items n) hall.items ≡ hall.items =
    λ i r. put_both (λ k (o : Option ℕ). o ≡ hall.items k) n (hall.items n) hall.items refl (λ k _. refl) r i in
    let path : hall_of (entered n s address nick role rooms) ≡ record hall { seats = put n room hall.seats; stays = rooms.stays + 1 } =
    hall_put rooms.hosted (changed_in n (enters x nick role) rooms.hosted) rooms.made (rooms.stays + 1) n v room (hall.items n)
    (changed_is n (enters x nick role) rooms.hosted (λ r. refl)) (ap seats_in some) (ap items_in some ∙ sym (ap items_in is))
    ∙ (λ i. record hall { seats = put n room hall.seats; items = same i; stays = rooms.stays + 1 }) in
    let all : hall.seats n ≡ seats_of h.room.occupants = ap seats_in is in
    subst (λ (z : Hall). GoodBy (λ _. logs.order) world.made world.sessions z
    (record logs { stays = put (rooms.stays + 1) (begins (takes_entries (world.sessions s)) s n (length (logs.order n))) logs.stays })) (sym path)
    (enter_good world.made world.sessions hall logs n s x room refl refl may.address may.made
    (ap (seat s) all ∙ outside_seats s h.room.occupants may.outside)
    (subst (λ (l : List Seat). IsInserted x l room) (sym all) (joins_room x nick role h.room (one h is)))
    good)
