-- The copies of a broadcast are a list over the room's seats, and each is the view of its session.
use Rattle.std.proofs.Common.{◌≡◌, ℕ, ◌==◌, ◌&&◌, ◌||◌, List, [], ◌∷◌, ◌++◌, map, flat_map, sym, refl, ap, ◌∙◌, Bool, true, false, Some, None, if◌then◌else◌}
use Rattle.std.specs.List.{list_any}
use Rattle.std.proofs.lemmas.Bool.{eq-eqb, ne_eqb}
use Rattle.std.proofs.lemmas.List.Folds.{list_any-append}
use Rattle.jid_core.specs.Addresses.{address_text}
use Rattle.stanza_tree.specs.declared.frame.Entry.{Entry}
use Rattle.stanza_tree.specs.declared.frame.Origin.TheVariants.{Live}
use Rattle.stanza_model.specs.declared.room.Occupant.{Occupant}
use Rattle.stanza_model.specs.declared.room.RoomItem.{RoomItem}
use Rattle.stanza_model.specs.declared.room.Seat.{Seat}
use Rattle.muc_roles.specs.Roles.{sees_addresses}
use Rattle.muc_room.specs.Views.{is_among, seen}
use Rattle.muc_service.specs.Rooms.{Hosted}
use Rattle.muc_service.specs.Casting.{copies, copies_for, copy_for}
use Rattle.house_model.specs.Sessions.{Push}
use Rattle.house_model.specs.Effects.{Effect, On}
use Rattle.house_model.specs.Steps.{effect_of}
use Rattle.house_model.specs.Stays.{seers_of}
use Rattle.house_model.proofs.SeatLemmas.{seat, seat_none, AreDistinct, seats_of}

-- a seat, and whether its session sees addresses
pub record Place : Type 0 where
  pub seat : Seat
  pub sees : Bool

abbrev pub seat_at : Place → Seat
seat_at p = p.seat

abbrev pub place : Bool → Seat → Place
place sees x = record { seat = x; sees = sees }

abbrev pub places_for : Bool → Occupant → List Place
places_for anyone o = map (place (sees_addresses o.role anyone)) o.seats

abbrev pub places_of : Bool → List Occupant → List Place
places_of anyone os = flat_map (places_for anyone) os

abbrev pub places : Hosted → List Place
places h = places_of h.room.config.anyone h.room.occupants

abbrev pub entry_for : Hosted → RoomItem → Place → Entry
entry_for h item p = record {
  to = address_text p.seat.address;
  rest = seen item p.sees h.room.address p.seat.session p.seat.address;
  origin = Live h.room.number p.seat.stay h.items;
}

abbrev pub push_for : Hosted → RoomItem → Place → Effect
push_for h item p = On p.seat.session (Push (entry_for h item p))

map_append : {A B : Type 0} (f : A → B) (xs ys : List A) → map f (xs ++ ys) ≡ map f xs ++ map f ys
map_append f [] ys = refl
map_append f (x ∷ xs) ys = ap (λ (l : List _). f x ∷ l) (map_append f xs ys)

copies_are_for : (h : Hosted) (item : RoomItem) (o : Occupant) (xs : List Seat)
    → map effect_of (map (copy_for h item o) xs) ≡ map (push_for h item) (map (place (sees_addresses o.role h.room.config.anyone)) xs)
copies_are_for h item o [] = refl
copies_are_for h item o (x ∷ xs) =
    ap (λ (l : List Effect). push_for h item (place (sees_addresses o.role h.room.config.anyone) x) ∷ l) (copies_are_for h item o xs)

copies_are_of : (h : Hosted) (item : RoomItem) (os : List Occupant)
    → map effect_of (flat_map (copies_for h item) os) ≡ map (push_for h item) (places_of h.room.config.anyone os)
copies_are_of h item [] = refl
copies_are_of h item (o ∷ os) =
    map_append effect_of (copies_for h item o) (flat_map (copies_for h item) os)
    ∙ (ap (λ (l : List Effect). l ++ map effect_of (flat_map (copies_for h item) os)) (copies_are_for h item o o.seats)
    ∙ (ap (λ (l : List Effect). map (push_for h item) (places_for h.room.config.anyone o) ++ l) (copies_are_of h item os)
    ∙ sym (map_append (push_for h item) (places_for h.room.config.anyone o) (places_of h.room.config.anyone os))))

pub copies_are : (h : Hosted) (item : RoomItem) → map effect_of (copies h item) ≡ map (push_for h item) (places h)
copies_are h item = copies_are_of h item h.room.occupants

-- the seats of these places are the room's

place_seats : (sees : Bool) (xs : List Seat) → map seat_at (map (place sees) xs) ≡ xs
place_seats sees [] = refl
place_seats sees (x ∷ xs) = ap (λ (l : List Seat). x ∷ l) (place_seats sees xs)

pub places_seats : (anyone : Bool) (os : List Occupant) → map seat_at (places_of anyone os) ≡ seats_of os
places_seats anyone [] = refl
places_seats anyone (o ∷ os) =
    map_append seat_at (places_for anyone o) (places_of anyone os)
    ∙ (ap (λ (l : List Seat). l ++ map seat_at (places_of anyone os)) (place_seats (sees_addresses o.role anyone) o.seats)
    ∙ ap (λ (l : List Seat). o.seats ++ l) (places_seats anyone os))

-- whether a session sees addresses, by the places

abbrev pub sees_here : ℕ → List Place → Bool
sees_here s ps = list_any (λ p. p.sees && (p.seat.session == s)) ps

seers_for : (s : ℕ) (sees : Bool) (xs : List Seat)
    → list_any (λ k. k == s) (if sees then map (λ seat. seat.session) xs else []) ≡ sees_here s (map (place sees) xs)
seers_for s true [] = refl
seers_for s true (x ∷ xs) = ap (λ (b : Bool). (x.session == s) || b) (seers_for s true xs)
seers_for s false [] = refl
seers_for s false (x ∷ xs) = seers_for s false xs

pub seers_are : (s : ℕ) (anyone : Bool) (os : List Occupant) → is_among s (flat_map (seers_of anyone) os) ≡ sees_here s (places_of anyone os)
seers_are s anyone [] = refl
seers_are s anyone (o ∷ os) =
    list_any-append (λ k. k == s) (seers_of anyone o) (flat_map (seers_of anyone) os)
    ∙ (ap (λ (b : Bool). b || is_among s (flat_map (seers_of anyone) os)) (seers_for s (sees_addresses o.role anyone) o.seats)
    ∙ (ap (λ (b : Bool). sees_here s (places_for anyone o) || b) (seers_are s anyone os)
    ∙ sym (list_any-append (λ p. p.sees && (p.seat.session == s)) (places_for anyone o) (places_of anyone os))))

abbrev pub EachPlace : (Place → Type 0) → List Place → Type 0
EachPlace P [] = Unit {0}
EachPlace P (p ∷ ps) = P p × EachPlace P ps

pub each_place : (P Q : Place → Type 0) (ps : List Place) → ((p : Place) → P p → Q p) → EachPlace P ps → EachPlace Q ps
each_place P Q [] f h = tt
each_place P Q (p ∷ ps) f h = (f p h.0, each_place P Q ps f h.1)

-- of a session without a seat

sees_none : (s : ℕ) (ps : List Place) → seat s (map seat_at ps) ≡ None → sees_here s ps ≡ false
sees_none s [] out = refl
sees_none s (p ∷ ps) out =
    let k = seat_none s p.seat (map seat_at ps) out in
    (let t : (p.seat.session == s) ≡ false = ne_eqb p.seat.session s (λ q. k.0 (sym q)) in rw t (none_or p.sees (sees_here s ps) (sees_none s ps k.1))) where
      none_or : (b c : Bool) → c ≡ false → ((b && false) || c) ≡ false
      none_or true c e = e
      none_or false c e = e

apart_from : (s : ℕ) (ps : List Place) → seat s (map seat_at ps) ≡ None → EachPlace (λ p. s ≡ p.seat.session → ⊥) ps
apart_from s [] out = tt
apart_from s (p ∷ ps) out = let k = seat_none s p.seat (map seat_at ps) out in (k.0, apart_from s ps k.1)

-- where no session has two seats, each sees what its place says, and its seat is that of the place

abbrev pub IsRight : List Place → Place → Type 0
IsRight ps p = (sees_here p.seat.session ps ≡ p.sees) × (seat p.seat.session (map seat_at ps) ≡ Some p.seat.stay)

both_pairs : (P Q : Place → Type 0) (ps : List Place) → EachPlace P ps → EachPlace Q ps → EachPlace (λ p. P p × Q p) ps
both_pairs P Q [] f g = tt
both_pairs P Q (p ∷ ps) f g = ((f.0, g.0), both_pairs P Q ps f.1 g.1)

pub all_right : (ps : List Place) → AreDistinct (map seat_at ps) → EachPlace (IsRight ps) ps
all_right [] d = tt
all_right (p ∷ ps) d = (
  (
    (let t : (p.seat.session == p.seat.session) ≡ true = eq-eqb p.seat.session p.seat.session refl in
        let n : sees_here p.seat.session ps ≡ false = sees_none p.seat.session ps d.0 in
        rw (t, n) (same p.sees)),
    (let t : (p.seat.session == p.seat.session) ≡ true = eq-eqb p.seat.session p.seat.session refl in rw t refl),
  ),
  each_place (λ q. (p.seat.session ≡ q.seat.session → ⊥) × IsRight ps q) (IsRight (p ∷ ps)) ps
      (λ q h.
      let t : (p.seat.session == q.seat.session) ≡ false = ne_eqb p.seat.session q.seat.session h.0 in
      ((rw t (passes p.sees (sees_here q.seat.session ps)) ∙ h.1.0), rw t h.1.1))
      (both_pairs (λ q. p.seat.session ≡ q.seat.session → ⊥) (IsRight ps) ps (apart_from p.seat.session ps d.0) (all_right ps d.1)),
) where
  same : (b : Bool) → ((b && true) || false) ≡ b
  same true = refl
  same false = refl

  passes : (b c : Bool) → ((b && false) || c) ≡ c
  passes true c = refl
  passes false c = refl
