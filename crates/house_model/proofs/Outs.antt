-- A session that departs has left each room: no seat is its own any more.
use Rattle.std.proofs.Common.{◌≡◌, ◌⊎◌, ℕ, ◌==◌, List, [], ◌∷◌, ◌++◌, map, flat_map, nat_le, length, nat_lt, sym, refl, ap, ◌∙◌, subst}
use Rattle.std.proofs.Common.{inl, inr, Bool, true, false, Option, Some, None, IfSome, is_some, if◌then◌else◌}
use Rattle.std.specs.List.{AllByRecursion, filter, list_any}
use Rattle.std.specs.Option.{option_map}
use Rattle.std.proofs.lemmas.Bool.{eq-eqb, ne_eqb}
use Rattle.stanza_model.specs.declared.effect.Change.TheVariants.{RoomGone}
use Rattle.stanza_model.specs.declared.effect.Effect as stanza
use Rattle.stanza_model.specs.declared.effect.Effect.TheVariants as effect
use Rattle.stanza_model.specs.declared.room.Occupant.{Occupant}
use Rattle.stanza_model.specs.declared.room.Seat.{Seat}
use Rattle.muc_room.specs.Leaving.{goes, leave, leaves_as}
use Rattle.muc_room.specs.Seats.{occupant_of}
use Rattle.muc_service.specs.Casting.{after}
use Rattle.muc_service.specs.Rooms.{Hosted, Rooms, changed, counted, is_in, leaves, step, without_room, without_seat}
use Rattle.house_model.specs.Numbered.{put}
use Rattle.house_model.specs.RoomLookups.{in_order, placed, rooms_of, stay_in}
use Rattle.house_model.proofs.Founds.{filter_all}
use Rattle.house_model.proofs.HallLemmas.{found, removed_is}
use Rattle.house_model.proofs.Housed.{Lives}
use Rattle.house_model.proofs.RoomsKept.{EachRoom}
use Rattle.house_model.proofs.SeatLemmas.{none_of, seat, seats_kept, seats_left, seats_of, two}
use Rattle.house_model.proofs.StayEnters.{neither, outside_seats}
use Rattle.house_model.proofs.StayGood.{seats_in}
use Rattle.house_model.proofs.StayHosts.{changed_is, counted_is, one_more, with_change}
use Rattle.house_model.proofs.StayLemmas.{choose, put_both}
use Rattle.house_model.proofs.StayNicks.{seat_rest}
use Rattle.muc_service.specs.Numbering.{AreNumbered, Numbered}

-- the rooms of a session, in order, are those that it is in

pub placed_all : (Q : Hosted → Type 0) (s : ℕ) (h : Hosted) (hs : List Hosted) → Q h → AllByRecursion Q hs → AllByRecursion Q (placed s h hs)
placed_all Q s h [] here all = (here, tt)
placed_all Q s h (x ∷ more) here all =
    choose (AllByRecursion Q) (nat_lt (stay_in s x) (stay_in s h)) (x ∷ placed s h more) (h ∷ x ∷ more)
    (λ (_ : _). (all.0, placed_all Q s h more here all.1)) (λ (_ : _). (here, all))

order_all : (Q : Hosted → Type 0) (s : ℕ) (hs : List Hosted) → AllByRecursion Q hs → AllByRecursion Q (in_order s hs)
order_all Q s [] all = tt
order_all Q s (h ∷ more) all = placed_all Q s h (in_order s more) all.0 (order_all Q s more all.1)

filter_true : (test : Hosted → Bool) (hs : List Hosted) → AllByRecursion (λ h. test h ≡ true) (filter test hs)
filter_true test [] = tt
filter_true test (h ∷ more) =
    choose (AllByRecursion (λ x. test x ≡ true)) (test h) (h ∷ filter test more) (filter test more)
    (λ (is : _). (is, filter_true test more)) (λ (_ : _). filter_true test more)

pub rooms_all : (Q : Hosted → Type 0) (s : ℕ) (rooms : Rooms) → AllByRecursion Q rooms.hosted → AllByRecursion Q (rooms_of s rooms)
rooms_all Q s rooms all = order_all Q s (filter (is_in s) rooms.hosted) (filter_all Q (is_in s) rooms.hosted all)

rooms_entered : (s : ℕ) (rooms : Rooms) → AllByRecursion (λ h. is_in s h ≡ true) (rooms_of s rooms)
rooms_entered s rooms = order_all (λ h. is_in s h ≡ true) s (filter (is_in s) rooms.hosted) (filter_true (is_in s) rooms.hosted)

-- what holds of each room that is found by its number holds of all that are there
pub listed_by : (V : Hosted → Type 0) (made : ℕ) (hs : List Hosted) → AreNumbered made hs → ((n : ℕ) → IfSome (found n hs) V) → AllByRecursion V hs
listed_by V made [] numbered each = tt
listed_by V made (h ∷ more) numbered each =
    (here (each h.room.number), listed_by V made more numbered.2 (λ n. later n (found n more) refl (each n))) where
      here : IfSome (found h.room.number (h ∷ more)) V → V h
      here is = (let t : (h.room.number == h.room.number) ≡ true = eq-eqb h.room.number h.room.number refl in rw t at is)

      later : (n : ℕ) (o : Option Hosted) → found n more ≡ o → IfSome (found n (h ∷ more)) V → IfSome o V
      later n None at is = tt
      later n (Some x) at is =
          let ne : (h.room.number == n) ≡ false = ne_eqb h.room.number n (λ (k : h.room.number ≡ n).
          let z : None ≡ Some x = sym numbered.1 ∙ (ap (λ (m : ℕ). found m more) k ∙ at) in cc) in
          subst (λ (p : Option Hosted). IfSome p V) at (rw ne at is)

pub each_listed : (V : _ → Type 0) (rooms : Rooms) → Numbered rooms → EachRoom V rooms → AllByRecursion (λ h. V h.room) rooms.hosted
each_listed V rooms numbered each = listed_by (λ h. V h.room) rooms.made rooms.hosted numbered each

-- which rooms it is still in

abbrev pub Out : ℕ → Rooms → Type 0
Out s rooms = (n : ℕ) → seat s (seats_in (found n rooms.hosted)) ≡ None

abbrev Among : ℕ → List Hosted → Type 0
Among n hs = list_any (λ h. h.room.number == n) hs ≡ true

abbrev OutBut : ℕ → List Hosted → Rooms → Type 0
OutBut s todo rooms = (n : ℕ) → (seat s (seats_in (found n rooms.hosted)) ≡ None) ⊎ Among n todo

among_placed : (n s : ℕ) (h : Hosted) (hs : List Hosted) → Among n (h ∷ hs) → Among n (placed s h hs)
among_placed n s h [] is = is
among_placed n s h (x ∷ more) is =
    choose (Among n) (nat_lt (stay_in s x) (stay_in s h)) (x ∷ placed s h more) (h ∷ x ∷ more)
    (λ (_ : _). elim (two (x.room.number == n)) as (λ _. Among n (x ∷ placed s h more)) [
      | inl e ↦ rw e refl
      | inr e ↦ (
          let without : Among n (h ∷ more) = elim (two (h.room.number == n)) as (λ _. Among n (h ∷ more)) [
            | inl d ↦ rw d refl
            | inr d ↦ (let k : Among n (x ∷ more) = rw d at is in let l : Among n more = rw e at k in rw d l)
          ] in
          rw e (among_placed n s h more without))
    ])
    (λ (_ : _). is)

among_order : (n s : ℕ) (hs : List Hosted) → Among n hs → Among n (in_order s hs)
among_order n s [] is = is
among_order n s (h ∷ more) is =
    among_placed n s h (in_order s more)
    (elim (two (h.room.number == n)) as (λ _. Among n (h ∷ in_order s more)) [
      | inl e ↦ rw e refl
      | inr e ↦ (let k : Among n more = rw e at is in rw e (among_order n s more k))
    ])

among_found : (n : ℕ) (test : Hosted → Bool) (hs : List Hosted) (h : Hosted) → found n hs ≡ Some h → test h ≡ true → Among n (filter test hs)
among_found n test [] h at is = absurd (let z : None ≡ Some h = at in cc)
among_found n test (x ∷ more) h at is =
    elim (two (x.room.number == n)) as (λ _. Among n (filter test (x ∷ more))) [
      | inl e ↦ (
          let z : Some x ≡ Some h = rw e at at in
          let same : x ≡ h = cc in
          let t : test x ≡ true = ap test same ∙ is in
          rw t (rw e refl))
      | inr e ↦ (
          let later : Among n (filter test more) = among_found n test more h (rw e at at) is in
          choose (Among n) (test x) (x ∷ filter test more) (filter test more) (λ (_ : _). rw e later) (λ (_ : _). later))
    ]

out_first : (s : ℕ) (rooms : Rooms) → OutBut s (rooms_of s rooms) rooms
out_first s rooms n = by (found n rooms.hosted) refl where
  by : (o : Option Hosted) → found n rooms.hosted ≡ o → (seat s (seats_in o) ≡ None) ⊎ Among n (rooms_of s rooms)
  by None at = inl refl
  by (Some h) at = elim (two (is_in s h)) as (λ _. (seat s (seats_in (Some h)) ≡ None) ⊎ Among n (rooms_of s rooms)) [
    | inl e ↦ inr (among_order n s (filter (is_in s) rooms.hosted) (among_found n (is_in s) rooms.hosted h at e))
    | inr e ↦ inl (outside_seats s h.room.occupants e)
  ]

-- it leaves one

out_put : (s : ℕ) (todo : List Hosted) (rooms rooms' : Rooms) (n : ℕ) (v : Option Hosted)
    → ((m : ℕ) → found m rooms'.hosted ≡ put n v (λ k. found k rooms.hosted) m) → ((seat s (seats_in v) ≡ None) ⊎ Among n todo)
    → ((m : ℕ) → (m ≡ n → ⊥) → (seat s (seats_in (found m rooms.hosted)) ≡ None) ⊎ Among m todo) → OutBut s todo rooms'
out_put s todo rooms rooms' n v is here other r =
    subst (λ (o : Option Hosted). (seat s (seats_in o) ≡ None) ⊎ Among r todo) (sym (is r))
    (put_both (λ k (o : Option Hosted). (seat s (seats_in o) ≡ None) ⊎ Among k todo) n v (λ k. found k rooms.hosted) here other r)

same_seats : (o : Option Hosted) → seats_in (option_map one_more o) ≡ seats_in o
same_seats None = refl
same_seats (Some h) = refl

left_seats : (s : ℕ) (o : Option Hosted) → seat s (seats_in (option_map (with_change (leaves s)) o)) ≡ None
left_seats s None = refl
left_seats s (Some h) =
    ap (seat s) (seats_kept (map (without_seat s) h.room.occupants) ∙ seats_left s h.room.occupants) ∙ none_of s (seats_of h.room.occupants)

out_counted : (s n : ℕ) (todo : List Hosted) (rooms : Rooms) → OutBut s todo rooms → OutBut s todo (counted n rooms)
out_counted s n todo rooms out =
    out_put s todo rooms (counted n rooms) n (option_map one_more (found n rooms.hosted)) (counted_is n rooms.hosted)
    (subst (λ (l : List Seat). (seat s l ≡ None) ⊎ Among n todo) (sym (same_seats (found n rooms.hosted))) (out n)) (λ m _. out m)

out_gone : (s n : ℕ) (todo : List Hosted) (rooms : Rooms) → OutBut s todo rooms → OutBut s todo (without_room n rooms)
out_gone s n todo rooms out = out_put s todo rooms (without_room n rooms) n None (removed_is n rooms.hosted) (inl refl) (λ m _. out m)

out_left : (s : ℕ) (h : Hosted) (todo : List Hosted) (rooms : Rooms) → OutBut s (h ∷ todo) rooms → OutBut s todo (changed h.room.number (leaves s) rooms)
out_left s h todo rooms out =
    out_put s todo rooms (changed h.room.number (leaves s) rooms) h.room.number (option_map (with_change (leaves s)) (found h.room.number rooms.hosted))
    (changed_is h.room.number (leaves s) rooms.hosted (λ x. refl)) (inl (left_seats s (found h.room.number rooms.hosted)))
    (λ m ne. elim (out m) as (λ _. (seat s (seats_in (found m rooms.hosted)) ≡ None) ⊎ Among m todo) [
      | inl none ↦ inl none
      | inr is ↦ (let t : (h.room.number == m) ≡ false = ne_eqb h.room.number m (λ k. ne (sym k)) in inr (rw t at is))
    ])

gone_or_not : (s : ℕ) (h : Hosted) (todo : List Hosted) (rooms : Rooms) (b : Bool) → OutBut s todo rooms
    → OutBut s todo (after rooms (if b then effect.Set (RoomGone h.room.number) ∷ [] else []))
gone_or_not s h todo rooms true out = out_gone s h.room.number todo rooms out
gone_or_not s h todo rooms false out = out

out_one : (s : ℕ) (h : Hosted) (todo : List Hosted) (rooms : Rooms) (o : Option Occupant) → is_some o ≡ true → OutBut s (h ∷ todo) rooms
    → OutBut s todo (after rooms (leaves_as h.room s o []))
out_one s h todo rooms None is out = absurd (let z : false ≡ true = is in cc)
out_one s h todo rooms (Some o) is out =
    choose (λ (es : List stanza.Effect). OutBut s todo (after rooms es)) (nat_le (length o.seats) 1) _ _
    (λ (_ : _). gone_or_not s h todo (changed h.room.number (leaves s) (counted h.room.number rooms)) (goes h.room)
    (out_left s h todo (counted h.room.number rooms) (out_counted s h.room.number (h ∷ todo) rooms out)))
    (λ (_ : _). out_left s h todo rooms out)

pub after_then : (xs ys : List stanza.Effect) (rooms : Rooms) → after rooms (xs ++ ys) ≡ after (after rooms xs) ys
after_then [] ys rooms = refl
after_then (x ∷ xs) ys rooms = after_then xs ys (step x rooms)

out_all : (s : ℕ) (hs : List Hosted) (rooms : Rooms) → AllByRecursion (λ h. is_in s h ≡ true) hs → OutBut s hs rooms
    → OutBut s [] (after rooms (flat_map (λ h. leave h.room s None) hs))
out_all s [] rooms entered out = out
out_all s (h ∷ hs) rooms entered out =
    subst (OutBut s []) (sym (after_then (leave h.room s None) (flat_map (λ x. leave x.room s None) hs) rooms))
    (out_all s hs (after rooms (leave h.room s None)) entered.1
    (out_one s h hs rooms (occupant_of s h.room.occupants) entered.0 out))

-- and so all
pub all_left : (s : ℕ) (rooms : Rooms) → Out s (after rooms (flat_map (λ h. leave h.room s None) (rooms_of s rooms)))
all_left s rooms n =
    elim (out_all s (rooms_of s rooms) rooms (rooms_entered s rooms) (out_first s rooms) n)
    as (λ _. seat s (seats_in (found n (after rooms (flat_map (λ h. leave h.room s None) (rooms_of s rooms))).hosted)) ≡ None) [
      | inl none ↦ none
      | inr is ↦ absurd (let z : false ≡ true = is in cc)
    ]

-- those who are in a room are others

others_live : (s : ℕ) (H H' : ℕ → Type 0) → ((q : ℕ) → (q ≡ s → ⊥) → H q → H' q) → (xs : List Seat) → list_any (λ x. x.session == s) xs ≡ false
    → AllByRecursion (λ (x : Seat). H x.session) xs → AllByRecursion (λ (x : Seat). H' x.session) xs
others_live s H H' other [] none all = tt
others_live s H H' other (x ∷ xs) none all =
    let k = neither (x.session == s) (list_any (λ y. y.session == s) xs) none in (
      other x.session (λ (e : x.session ≡ s). let z : true ≡ false = sym (eq-eqb x.session s e) ∙ k.0 in cc) all.0,
      others_live s H H' other xs k.1 all.1,
    )

pub out_lives : (s : ℕ) (H H' : ℕ → Type 0) → ((q : ℕ) → (q ≡ s → ⊥) → H q → H' q) → (os : List Occupant) → seat s (seats_of os) ≡ None
    → AllByRecursion (Lives H) os → AllByRecursion (Lives H') os
out_lives s H H' other [] none all = tt
out_lives s H H' other (o ∷ os) none all =
    let k = seat_rest s o.seats (seats_of os) none in
    ((others_live s H H' other o.seats k.0 all.0.0, all.0.1), out_lives s H H' other os k.1 all.1)
