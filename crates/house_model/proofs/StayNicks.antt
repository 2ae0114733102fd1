-- The occupants of a room have different nicks, and each effect that suits keeps this.
use Rattle.std.proofs.Common.{◌≡◌, ℕ, ◌==◌, ◌||◌, List, [], ◌∷◌, ◌++◌, map, sym, refl, ap, ◌∙◌, subst, inl, inr, Bool, true, false, Some, None}
use Rattle.std.proofs.Common.{is_some, bytes_eq}
use Rattle.std.specs.List.{filter, find, list_any}
use Rattle.std.proofs.lemmas.Bool.{eqb-true}
use Rattle.std.proofs.lemmas.Slice.Eq.{bytes_eq-Decides}
use Rattle.stanza_model.specs.declared.room.Occupant.{Occupant}
use Rattle.stanza_model.specs.declared.room.Role.{Role}
use Rattle.stanza_model.specs.declared.room.Room.{Room}
use Rattle.stanza_model.specs.declared.room.Seat.{Seat}
use Rattle.muc_room.specs.Seats.{has_nick, has_seat}
use Rattle.muc_service.specs.Rooms.{joined_if, newcomer, occupied, has_seats, leaves, without_seat, renamed_if}
use Rattle.house_model.proofs.StayLemmas.{choose}
use Rattle.house_model.proofs.SeatLemmas.{seat, AreDistinct, seats_of, two}
use Rattle.house_model.proofs.HallLemmas.{AtMostOne}
use Rattle.house_model.proofs.StayEnters.{neither}

abbrev pub AreApart : List Occupant → Type 0
AreApart [] = Unit {0}
AreApart (o ∷ os) = (list_any (has_nick o.nick) os ≡ false) × AreApart os

not_true : (b : Bool) → (b ≡ true → ⊥) → b ≡ false
not_true true f = absurd (f refl)
not_true false f = refl

bytes_turn : (xs ys : List ℕ) → bytes_eq xs ys ≡ false → bytes_eq ys xs ≡ false
bytes_turn xs ys h = not_true (bytes_eq ys xs) (λ (t : bytes_eq ys xs ≡ true).
    let same : bytes_eq xs ys ≡ true = (bytes_eq-Decides xs ys).1 (sym ((bytes_eq-Decides ys xs).0 t)) in
    (let z : true ≡ false = sym same ∙ h in cc))

-- a nick of its own: one occupant at most has any nick
pub apart_one : (nick : List ℕ) (os : List Occupant) → AreApart os → AtMostOne (has_nick nick) os
apart_one nick [] h = tt
apart_one nick (o ∷ os) h =
    ((λ (t : has_nick nick o ≡ true). ap (λ (n : List ℕ). list_any (has_nick n) os) (sym ((bytes_eq-Decides o.nick nick).0 t)) ∙ h.0), apart_one nick os h.1)

any_map : (f : Occupant → Occupant) → ((o : Occupant) → (f o).nick ≡ o.nick) → (n : List ℕ) (os : List Occupant)
    → list_any (has_nick n) (map f os) ≡ list_any (has_nick n) os
any_map f same n [] = refl
any_map f same n (o ∷ os) =
    ap (λ (k : List ℕ). bytes_eq k n || list_any (has_nick n) (map f os)) (same o) ∙ ap (λ (b : Bool). has_nick n o || b) (any_map f same n os)

pub apart_map : (f : Occupant → Occupant) → ((o : Occupant) → (f o).nick ≡ o.nick) → (os : List Occupant) → AreApart os → AreApart (map f os)
apart_map f same [] h = tt
apart_map f same (o ∷ os) h =
    (ap (λ (n : List ℕ). list_any (has_nick n) (map f os)) (same o) ∙ (any_map f same o.nick os ∙ h.0), apart_map f same os h.1)

any_filter : (test p : Occupant → Bool) (os : List Occupant) → list_any test os ≡ false → list_any test (filter p os) ≡ false
any_filter test p [] h = refl
any_filter test p (o ∷ os) h =
    let k = neither (test o) (list_any test os) h in
    choose (λ (l : List Occupant). list_any test l ≡ false) (p o) (o ∷ filter p os) (filter p os)
    (λ (_ : _). let t : test o ≡ false = k.0 in rw t (any_filter test p os k.1))
    (λ (_ : _). any_filter test p os k.1)

pub apart_filter : (p : Occupant → Bool) (os : List Occupant) → AreApart os → AreApart (filter p os)
apart_filter p [] h = tt
apart_filter p (o ∷ os) h =
    choose AreApart (p o) (o ∷ filter p os) (filter p os)
    (λ (_ : _). (any_filter (has_nick o.nick) p os h.0, apart_filter p os h.1))
    (λ (_ : _). apart_filter p os h.1)

any_push : (test : Occupant → Bool) (os : List Occupant) (x : Occupant) → list_any test os ≡ false → test x ≡ false → list_any test (os ++ x ∷ []) ≡ false
any_push test [] x h t = rw t refl
any_push test (o ∷ os) x h t =
    let k = neither (test o) (list_any test os) h in
    (let u : test o ≡ false = k.0 in rw u (any_push test os x k.1 t))

pub apart_push : (os : List Occupant) (x : Occupant) → list_any (has_nick x.nick) os ≡ false → AreApart os → AreApart (os ++ x ∷ [])
apart_push [] x h a = (refl, tt)
apart_push (o ∷ os) x h a =
    let k = neither (has_nick x.nick o) (list_any (has_nick x.nick) os) h in
    (any_push (has_nick o.nick) os x a.0 (bytes_turn o.nick x.nick k.0), apart_push os x k.1 a.1)

-- an occupant with another nick, which nobody has

pub seat_rest : (s : ℕ) (xs ys : List Seat) → seat s (xs ++ ys) ≡ None → (list_any (λ seat. seat.session == s) xs ≡ false) × (seat s ys ≡ None)
seat_rest s [] ys h = (refl, h)
seat_rest s (x ∷ xs) ys h =
    elim (two (x.session == s)) as (λ _. (list_any (λ seat. seat.session == s) (x ∷ xs) ≡ false) × (seat s ys ≡ None)) [
      | inl e ↦ absurd (let z : Some x.stay ≡ None = rw e at h in cc)
      | inr e ↦ (let k = seat_rest s xs ys (rw e at h) in (rw e k.0, k.1))
    ]

pub distinct_rest : (xs ys : List Seat) → AreDistinct (xs ++ ys) → AreDistinct ys
distinct_rest [] ys d = d
distinct_rest (x ∷ xs) ys d = distinct_rest xs ys d.1

pub seat_once : (s : ℕ) (xs ys : List Seat) → AreDistinct (xs ++ ys) → list_any (λ seat. seat.session == s) xs ≡ true → seat s ys ≡ None
seat_once s [] ys d h = absurd (let z : false ≡ true = h in cc)
seat_once s (x ∷ xs) ys d h =
    elim (two (x.session == s)) as (λ _. seat s ys ≡ None) [
      | inl e ↦ (seat_rest s xs ys (subst (λ (j : ℕ). seat j (xs ++ ys) ≡ None) (eqb-true x.session s e) d.0)).1
      | inr e ↦ seat_once s xs ys d.1 (rw e at h)
    ]

none_renamed : (s : ℕ) (nick : List ℕ) (os : List Occupant) → seat s (seats_of os) ≡ None → map (renamed_if s nick) os ≡ os
none_renamed s nick [] h = refl
none_renamed s nick (o ∷ os) h =
    let k = seat_rest s o.seats (seats_of os) h in
    let t : has_seat s o ≡ false = k.0 in
    let first : renamed_if s nick o ≡ o = rw t refl in
    ap (λ (p : Occupant). p ∷ map (renamed_if s nick) os) first ∙ ap (λ (l : List Occupant). o ∷ l) (none_renamed s nick os k.1)

any_renamed : (s : ℕ) (nick n : List ℕ) (os : List Occupant) → bytes_eq nick n ≡ false → list_any (has_nick n) os ≡ false
    → list_any (has_nick n) (map (renamed_if s nick) os) ≡ false
any_renamed s nick n [] t h = refl
any_renamed s nick n (o ∷ os) t h =
    let k = neither (has_nick n o) (list_any (has_nick n) os) h in
    let first : has_nick n (renamed_if s nick o) ≡ false =
    choose (λ (p : Occupant). has_nick n p ≡ false) (has_seat s o) (record o { nick = nick }) o (λ (_ : _). t) (λ (_ : _). k.0) in
    rw first (any_renamed s nick n os t k.1)

pub apart_renamed : (s : ℕ) (nick : List ℕ) (os : List Occupant) → AreDistinct (seats_of os) → list_any (has_nick nick) os ≡ false → AreApart os
    → AreApart (map (renamed_if s nick) os)
apart_renamed s nick [] d h a = tt
apart_renamed s nick (o ∷ os) d h a =
    let k = neither (has_nick nick o) (list_any (has_nick nick) os) h in
    elim (two (has_seat s o)) as (λ _. AreApart (map (renamed_if s nick) (o ∷ os))) [
      | inl e ↦ (
          let rest : map (renamed_if s nick) os ≡ os = none_renamed s nick os (seat_once s o.seats (seats_of os) d e) in
          let first : renamed_if s nick o ≡ record o { nick = nick } = rw e refl in
          subst (λ (p : Occupant). AreApart (p ∷ map (renamed_if s nick) os)) (sym first)
          (subst (λ (l : List Occupant). AreApart (record o { nick = nick } ∷ l)) (sym rest) (k.1, a.1)))
      | inr e ↦ (
          let first : renamed_if s nick o ≡ o = rw e refl in
          subst (λ (p : Occupant). AreApart (p ∷ map (renamed_if s nick) os)) (sym first)
          (any_renamed s nick o.nick os (bytes_turn o.nick nick k.0) a.0, apart_renamed s nick os (distinct_rest o.seats (seats_of os) d) k.1 a.1))
    ]

-- a session enters

joined_nick : (x : Seat) (nick : List ℕ) (o : Occupant) → (joined_if x nick o).nick ≡ o.nick
joined_nick x nick o = choose (λ (p : Occupant). p.nick ≡ o.nick) (has_nick nick o) (record o { seats = o.seats ++ x ∷ [] }) o (λ (_ : _). refl)
    (λ (_ : _). refl)

pub apart_occupied : (x : Seat) (nick : List ℕ) (role : Role) (room : Room) → AreApart room.occupants → AreApart (occupied x nick role room)
apart_occupied x nick role room a =
    choose AreApart (list_any (has_nick nick) room.occupants) (map (joined_if x nick) room.occupants) (room.occupants ++ newcomer room x nick role ∷ [])
    (λ (_ : _). apart_map (joined_if x nick) (joined_nick x nick) room.occupants a)
    (λ (e : _). apart_push room.occupants (newcomer room x nick role) e a)

pub apart_leaves : (s : ℕ) (room : Room) → AreApart room.occupants → AreApart (leaves s room).occupants
apart_leaves s room a = apart_filter has_seats (map (without_seat s) room.occupants) (apart_map (without_seat s) (λ o. refl) room.occupants a)

pub some_any : (p : Occupant → Bool) (os : List Occupant) → is_some (find p os) ≡ list_any p os
some_any p [] = refl
some_any p (o ∷ os) =
    elim (two (p o)) as (λ _. is_some (find p (o ∷ os)) ≡ list_any p (o ∷ os)) [
      | inl e ↦ rw e refl
      | inr e ↦ rw e (some_any p os)
    ]
