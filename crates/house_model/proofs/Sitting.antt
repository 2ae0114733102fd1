-- Which sessions have a seat among these, and among fewer.
use Rattle.std.proofs.Common.{◌≡◌, ◌⊎◌, ℕ, ◌==◌, ◌||◌, List, [], ◌∷◌, ◌++◌, map, sym, refl, ap, ◌∙◌, subst, inl, inr, Bool, true, false, Some, None}
use Rattle.std.proofs.Common.{is_some, if◌then◌else◌}
use Rattle.std.specs.List.{filter, list_any}
use Rattle.std.proofs.lemmas.Bool.{eq-eqb, ne_eqb}
use Rattle.std.proofs.lemmas.List.Folds.{list_any-append}
use Rattle.stanza_model.specs.declared.room.Occupant.{Occupant}
use Rattle.stanza_model.specs.declared.room.Role.{Role}
use Rattle.stanza_model.specs.declared.room.Room.{Room}
use Rattle.stanza_model.specs.declared.room.Seat.{Seat}
use Rattle.muc_room.specs.Seats.{has_nick, has_seat, occupant_of}
use Rattle.muc_service.specs.Rooms.{joined_if, newcomer, occupied}
use Rattle.house_model.proofs.Housed.{any_without}
use Rattle.house_model.proofs.SeatLemmas.{seat, seat_none, seat_without_none, seats_of, none_of, without, AreDistinct, two}
use Rattle.house_model.proofs.StayEnters.{neither}
use Rattle.house_model.proofs.StayLemmas.{choose}
use Rattle.house_model.proofs.StayNicks.{distinct_rest, seat_once, seat_rest}

abbrev pub sits : ℕ → List Seat → Bool
sits s xs = list_any (λ x. x.session == s) xs

pub not_both : (b : Bool) → b ≡ true → b ≡ false → ⊥
not_both b is isnt = let z : true ≡ false = sym is ∙ isnt in cc

or_right : (b c : Bool) → c ≡ true → (b || c) ≡ true
or_right true c h = refl
or_right false c h = h

sits_both : (s : ℕ) (xs ys : List Seat) → sits s (xs ++ ys) ≡ (sits s xs || sits s ys)
sits_both s xs ys = list_any-append (λ (x : Seat). x.session == s) xs ys

pub sits_left : (s : ℕ) (xs ys : List Seat) → sits s xs ≡ true → sits s (xs ++ ys) ≡ true
sits_left s xs ys is = sits_both s xs ys ∙ ap (λ (b : Bool). b || sits s ys) is

pub sits_right : (s : ℕ) (xs ys : List Seat) → sits s ys ≡ true → sits s (xs ++ ys) ≡ true
sits_right s xs ys is = sits_both s xs ys ∙ or_right (sits s xs) (sits s ys) is

sits_past : (s : ℕ) (xs ys : List Seat) → sits s xs ≡ false → sits s (xs ++ ys) ≡ sits s ys
sits_past s xs ys out = sits_both s xs ys ∙ ap (λ (b : Bool). b || sits s ys) out

pub sits_one : (x : Seat) (xs : List Seat) → sits x.session (x ∷ xs) ≡ true
sits_one x xs = ap (λ (b : Bool). b || sits x.session xs) (eq-eqb x.session x.session refl)

-- in one of two parts
pub sits_in : (s : ℕ) (xs ys : List Seat) → sits s (xs ++ ys) ≡ true → (sits s xs ≡ true) ⊎ (sits s ys ≡ true)
sits_in s xs ys is = elim (two (sits s xs)) as (λ _. (sits s xs ≡ true) ⊎ (sits s ys ≡ true)) [
  | inl e ↦ inl e
  | inr e ↦ inr (sym (sits_past s xs ys e) ∙ is)
]

-- as the stay of its seat says

pub none_sits : (s : ℕ) (xs : List Seat) → seat s xs ≡ None → sits s xs ≡ false
none_sits s [] none = refl
none_sits s (x ∷ xs) none =
    let k = seat_none s x xs none in
    ap (λ (b : Bool). b || sits s xs) (ne_eqb x.session s (λ q. k.0 (sym q))) ∙ none_sits s xs k.1

pub sits_none : (s : ℕ) (xs : List Seat) → sits s xs ≡ false → seat s xs ≡ None
sits_none s [] out = refl
sits_none s (x ∷ xs) out =
    let k = neither (x.session == s) (sits s xs) out in
    ap (λ (b : Bool). if b then Some x.stay else seat s xs) k.0 ∙ sits_none s xs k.1

-- Seats that differ.

pub distinct_first : (xs ys : List Seat) → AreDistinct (xs ++ ys) → AreDistinct xs
distinct_first [] ys d = tt
distinct_first (x ∷ xs) ys d = (sits_none x.session xs (seat_rest x.session xs ys d.0).0, distinct_first xs ys d.1)

-- a session sits in one part at most
pub one_part : (s : ℕ) (xs ys : List Seat) → AreDistinct (xs ++ ys) → sits s ys ≡ true → sits s xs ≡ false
one_part s xs ys d is = elim (two (sits s xs)) as (λ _. sits s xs ≡ false) [
  | inl e ↦ absurd (not_both (sits s ys) is (none_sits s ys (seat_once s xs ys d e)))
  | inr e ↦ e
]

-- fewer of the later ones
distinct_fewer : (xs ys zs : List Seat) → AreDistinct (xs ++ ys) → ((s : ℕ) → sits s zs ≡ true → sits s ys ≡ true) → AreDistinct zs → AreDistinct (xs ++ zs)
distinct_fewer [] ys zs d few distinct = distinct
distinct_fewer (x ∷ xs) ys zs d few distinct =
    let k = seat_rest x.session xs ys d.0 in
    let out : sits x.session zs ≡ false = elim (two (sits x.session zs)) as (λ _. sits x.session zs ≡ false) [
      | inl e ↦ absurd (not_both (sits x.session ys) (few x.session e) (none_sits x.session ys k.1))
      | inr e ↦ e
    ] in
    (sits_none x.session (xs ++ zs) (sits_past x.session xs zs k.0 ∙ out), distinct_fewer xs ys zs d.1 few distinct)

-- Fewer occupants.

pub filter_sits : (s : ℕ) (test : Occupant → Bool) (os : List Occupant) → sits s (seats_of (filter test os)) ≡ true → sits s (seats_of os) ≡ true
filter_sits s test [] is = is
filter_sits s test (o ∷ os) is =
    choose (λ (l : List Occupant). sits s (seats_of l) ≡ true → sits s (seats_of (o ∷ os)) ≡ true) (test o) (o ∷ filter test os) (filter test os)
    (λ (_ : _) here. elim (sits_in s o.seats (seats_of (filter test os)) here) as (λ _. sits s (seats_of (o ∷ os)) ≡ true) [
      | inl mine ↦ sits_left s o.seats (seats_of os) mine
      | inr later ↦ sits_right s o.seats (seats_of os) (filter_sits s test os later)
    ])
    (λ (_ : _) later. sits_right s o.seats (seats_of os) (filter_sits s test os later)) is

pub distinct_filter : (test : Occupant → Bool) (os : List Occupant) → AreDistinct (seats_of os) → AreDistinct (seats_of (filter test os))
distinct_filter test [] d = tt
distinct_filter test (o ∷ os) d =
    let rest : AreDistinct (seats_of (filter test os)) = distinct_filter test os (distinct_rest o.seats (seats_of os) d) in
    choose (λ (l : List Occupant). AreDistinct (seats_of l)) (test o) (o ∷ filter test os) (filter test os)
    (λ (_ : _). distinct_fewer o.seats (seats_of os) (seats_of (filter test os)) d (λ s is. filter_sits s test os is) rest) (λ (_ : _). rest)

-- One session fewer.

pub sits_without : (s q : ℕ) (xs : List Seat) → (s ≡ q → ⊥) → sits s xs ≡ true → sits s (without q xs) ≡ true
sits_without s q xs ne is = any_without s q xs ne is

pub left_sits : (s q : ℕ) (xs : List Seat) → sits s (without q xs) ≡ true → (s ≡ q → ⊥) × (sits s xs ≡ true)
left_sits s q xs is = (
  (λ (e : s ≡ q). not_both (sits q (without q xs)) (subst (λ (k : ℕ). sits k (without q xs) ≡ true) e is)
      (none_sits q (without q xs) (none_of q xs))),
  elim (two (sits s xs)) as (λ _. sits s xs ≡ true) [
    | inl e ↦ e
    | inr e ↦ absurd (not_both (sits s (without q xs)) is (none_sits s (without q xs) (seat_without_none q s xs (sits_none s xs e))))
  ],
)

-- Who is in a room has a seat there.

pub inside_is : (s : ℕ) (os : List Occupant) → is_some (occupant_of s os) ≡ sits s (seats_of os)
inside_is s [] = refl
inside_is s (o ∷ os) = by (has_seat s o) (inside_is s os) ∙ sym (sits_both s o.seats (seats_of os)) where
  by : (b : Bool) → is_some (occupant_of s os) ≡ sits s (seats_of os) → is_some (if b then Some o else occupant_of s os) ≡ (b || sits s (seats_of os))
  by true rest = refl
  by false rest = rest

-- Who enters it has one then.

joined_sits : (x : Seat) (nick : List ℕ) (os : List Occupant) → list_any (has_nick nick) os ≡ true
    → sits x.session (seats_of (map (joined_if x nick) os)) ≡ true
joined_sits x nick [] is = absurd (let z : false ≡ true = is in cc)
joined_sits x nick (o ∷ os) is =
    let rest : List Seat = seats_of (map (joined_if x nick) os) in
    elim (two (has_nick nick o)) as (λ _. sits x.session (seats_of (map (joined_if x nick) (o ∷ os))) ≡ true) [
      | inl e ↦ sits_left x.session (joined_if x nick o).seats rest
          (choose (λ (p : Occupant). sits x.session p.seats ≡ true) (has_nick nick o) (record o { seats = o.seats ++ x ∷ [] }) o
          (λ (_ : _). sits_right x.session o.seats (x ∷ []) (sits_one x [])) (λ (f : _). absurd (not_both (has_nick nick o) e f)))
      | inr e ↦ sits_right x.session (joined_if x nick o).seats rest
          (joined_sits x nick os (sym (ap (λ (b : Bool). b || list_any (has_nick nick) os) e) ∙ is))
    ]

pushed_sits : (x : Seat) (new : Occupant) → sits x.session new.seats ≡ true → (os : List Occupant) → sits x.session (seats_of (os ++ new ∷ [])) ≡ true
pushed_sits x new is [] = sits_left x.session new.seats [] is
pushed_sits x new is (o ∷ os) = sits_right x.session o.seats (seats_of (os ++ new ∷ [])) (pushed_sits x new is os)

pub occupied_sits : (x : Seat) (nick : List ℕ) (role : Role) (room : Room) → sits x.session (seats_of (occupied x nick role room)) ≡ true
occupied_sits x nick role room =
    choose (λ (os : List Occupant). sits x.session (seats_of os) ≡ true) (list_any (has_nick nick) room.occupants) (map (joined_if x nick) room.occupants)
    (room.occupants ++ newcomer room x nick role ∷ [])
    (λ (is : _). joined_sits x nick room.occupants is) (λ (_ : _). pushed_sits x (newcomer room x nick role) (sits_one x []) room.occupants)
