-- Who is in a room still, where the occupants that some sessions are have left it; and that no session gets a second seat by that.
use Rattle.std.proofs.Common.{◌≡◌, ℕ, ◌||◌, List, [], ◌∷◌, ◌++◌, map, append_assoc, not, sym, refl, ap, ◌∙◌, subst, inl, inr, Bool, true, false}
use Rattle.std.proofs.Common.{None, if◌then◌else◌}
use Rattle.std.specs.List.{AllByRecursion, filter, list_any}
use Rattle.std.proofs.lemmas.List.Folds.{list_any-append}
use Rattle.jid_core.specs.Addresses.{Address}
use Rattle.stanza_model.specs.declared.room.Affiliation.{Affiliation}
use Rattle.stanza_model.specs.declared.room.Occupant.{Occupant}
use Rattle.stanza_model.specs.declared.room.Role.{Role}
use Rattle.stanza_model.specs.declared.room.Role.TheVariants.{Moderator, Participant, Visitor, Nobody}
use Rattle.stanza_model.specs.declared.room.Room.{Room}
use Rattle.stanza_model.specs.declared.room.Seat.{Seat}
use Rattle.muc_room.specs.Seats.{has_seat}
use Rattle.muc_room.specs.States.{affiliated_if, is_of, role_if, set_affiliation, set_role, without_occupant}
use Rattle.muc_admin.specs.Afterwards.{speakers, with_role, with_roles}
use Rattle.house_model.proofs.Founds.{filter_all}
use Rattle.house_model.proofs.RoomCases.{map_all}
use Rattle.house_model.proofs.SeatLemmas.{seat, seats_map, seats_of, two, AreDistinct}
use Rattle.house_model.proofs.Sitting.{distinct_filter, filter_sits, not_both, one_part, sits, sits_in, sits_left}
use Rattle.house_model.proofs.Sitting.{sits_none, sits_right}
use Rattle.house_model.proofs.StayLemmas.{choose}
use Rattle.house_model.proofs.StayNicks.{distinct_rest, seat_rest}
use Rattle.house_model.proofs.StayWhole.{affiliated_seats, role_seats, same_seats_in}

-- the session whose presence is shown has a seat
abbrev pub Spoken : Occupant → Type 0
Spoken o = has_seat o.spoke o ≡ true

-- a room in which no session has two seats
pub record Well (room : Room) : Type 0 where
  pub distinct : AreDistinct (seats_of room.occupants)
  pub spoken : AllByRecursion Spoken room.occupants

-- The occupants that none of these sessions is.

abbrev pub without_all : List ℕ → List Occupant → List Occupant
without_all [] os = os
without_all (q ∷ qs) os = without_all qs (filter (λ o. not (has_seat q o)) os)

none_left : (qs : List ℕ) → without_all qs [] ≡ []
none_left [] = refl
none_left (q ∷ qs) = none_left qs

head_left : (qs : List ℕ) (o : Occupant) (os : List Occupant)
    → without_all qs (o ∷ os) ≡ (if list_any (λ q. has_seat q o) qs then without_all qs os else o ∷ without_all qs os)
head_left [] o os = refl
head_left (q ∷ qs) o os = by (has_seat q o) (head_left qs o (rest_of q os)) where
  rest_of : ℕ → List Occupant → List Occupant
  rest_of k os = filter (λ p. not (has_seat k p)) os

  by : (b : Bool)
      → without_all qs (o ∷ rest_of q os) ≡ (if list_any (λ k. has_seat k o) qs then without_all qs (rest_of q os) else o ∷ without_all qs (rest_of q os))
      → without_all qs (if not b then o ∷ rest_of q os else rest_of q os)
      ≡ (if b || list_any (λ k. has_seat k o) qs then without_all qs (rest_of q os) else o ∷ without_all qs (rest_of q os))
  by true later = refl
  by false later = later

pub roles_left : (qs : List ℕ) (r : Room) → (with_roles qs Nobody r).occupants ≡ without_all qs r.occupants
roles_left [] r = refl
roles_left (q ∷ qs) r = roles_left qs (without_occupant q r)

pub roles_stay : (qs : List ℕ) (role : Role) → (role ≡ Nobody → ⊥) → (r : Room) → seats_of (with_roles qs role r).occupants ≡ seats_of r.occupants
roles_stay [] role has r = refl
roles_stay (q ∷ qs) role has r = roles_stay qs role has (with_role q role r) ∙ one role has where
  one : (role : Role) → (role ≡ Nobody → ⊥) → seats_of (with_role q role r).occupants ≡ seats_of r.occupants
  one Nobody has = absurd (has refl)
  one Moderator has = same_seats_in (role_if q Moderator) (role_seats q Moderator) r
  one Participant has = same_seats_in (role_if q Participant) (role_seats q Participant) r
  one Visitor has = same_seats_in (role_if q Visitor) (role_seats q Visitor) r

-- a change of each occupant that leaves the seats alone
module _ (f : Occupant → Occupant) (seats : (o : Occupant) → (f o).seats ≡ o.seats) where
  filter_map : (q : ℕ) (os : List Occupant) → filter (λ o. not (has_seat q o)) (map f os) ≡ map f (filter (λ o. not (has_seat q o)) os)
  filter_map q [] = refl
  filter_map q (o ∷ os) =
      ap (λ (xs : List Seat). if not (sits q xs) then f o ∷ filter (λ p. not (has_seat q p)) (map f os)
      else filter (λ p. not (has_seat q p)) (map f os)) (seats o)
      ∙ (ap (λ (l : List Occupant). if not (has_seat q o) then f o ∷ l else l) (filter_map q os) ∙ by (not (has_seat q o))) where
        rest : List Occupant
        rest = filter (λ p. not (has_seat q p)) os

        by : (b : Bool) → (if b then f o ∷ map f rest else map f rest) ≡ map f (if b then o ∷ rest else rest)
        by true = refl
        by false = refl

  left_map : (qs : List ℕ) (os : List Occupant) → without_all qs (map f os) ≡ map f (without_all qs os)
  left_map [] os = refl
  left_map (q ∷ qs) os = ap (without_all qs) (filter_map q os) ∙ left_map qs (filter (λ o. not (has_seat q o)) os)

  pub left_seats : (qs : List ℕ) (os : List Occupant) → seats_of (without_all qs (map f os)) ≡ seats_of (without_all qs os)
  left_seats qs os = ap seats_of (left_map qs os) ∙ seats_map f seats (without_all qs os)

-- The occupants of a user: each is one of its speakers.

module _ (address : Address) where
  abbrev Speaks : List ℕ → Occupant → Type 0
  Speaks qs o = is_of address o ≡ true → list_any (λ q. has_seat q o) qs ≡ true

  pub each_speaks : (before : List ℕ) (os : List Occupant) → AllByRecursion Spoken os → AllByRecursion (Speaks (before ++ speakers address os)) os
  each_speaks before [] spoken = tt
  each_speaks before (o ∷ os) spoken =
      choose (λ (l : List Occupant). AllByRecursion (Speaks (before ++ map (λ p. p.spoke) l)) (o ∷ os)) (is_of address o) (o ∷ filter (is_of address) os)
      (filter (is_of address) os)
      (λ (_ : _). (
        (λ (_ : _). list_any-append (λ (q : ℕ). has_seat q o) before (o.spoke ∷ speakers address os)
            ∙ or_true (list_any (λ q. has_seat q o) before) (has_seat o.spoke o) (list_any (λ q. has_seat q o) (speakers address os)) spoken.0),
        subst (λ (l : List ℕ). AllByRecursion (Speaks l) os) (append_assoc before (o.spoke ∷ []) (speakers address os))
            (each_speaks (before ++ o.spoke ∷ []) os spoken.1),
      ))
      (λ (isnt : _). ((λ (e : is_of address o ≡ true). absurd (not_both (is_of address o) e isnt)), each_speaks before os spoken.1)) where
        or_true : (b c d : Bool) → c ≡ true → (b || (c || d)) ≡ true
        or_true true c d is = refl
        or_true false c d is = ap (λ (x : Bool). x || d) is

  abbrev pub others : List Occupant → List Occupant
  others os = filter (λ p. not (is_of address p)) os

  later_other : (s : ℕ) (o : Occupant) (os : List Occupant) → sits s (seats_of (others os)) ≡ true → sits s (seats_of (others (o ∷ os))) ≡ true
  later_other s o os sat =
      choose (λ (l : List Occupant). sits s (seats_of l) ≡ true) (not (is_of address o)) (o ∷ others os) (others os)
      (λ (_ : _). sits_right s o.seats (seats_of (others os)) sat) (λ (_ : _). sat)

  first_other : (s : ℕ) (o : Occupant) (os : List Occupant) → is_of address o ≡ false → sits s o.seats ≡ true → sits s (seats_of (others (o ∷ os))) ≡ true
  first_other s o os isnt sat =
      choose (λ (l : List Occupant). sits s (seats_of l) ≡ true) (not (is_of address o)) (o ∷ others os) (others os)
      (λ (_ : _). sits_left s o.seats (seats_of (others os)) sat)
      (λ (e : not (is_of address o) ≡ false). absurd (not_both (not (is_of address o)) (ap not isnt) e))

  -- those whom no speaker removes are others
  pub remain : (qs : List ℕ) (os : List Occupant) (s : ℕ) → AllByRecursion (Speaks qs) os → sits s (seats_of (without_all qs os)) ≡ true
      → sits s (seats_of (others os)) ≡ true
  remain qs [] s speaks sat = ap (λ (l : List Occupant). sits s (seats_of l)) (sym (none_left qs)) ∙ sat
  remain qs (o ∷ os) s speaks sat =
      choose (λ (l : List Occupant). sits s (seats_of l) ≡ true → sits s (seats_of (others (o ∷ os))) ≡ true)
      (list_any (λ q. has_seat q o) qs) (without_all qs os) (o ∷ without_all qs os)
      (λ (_ : _) later. later_other s o os (remain qs os s speaks.1 later))
      (λ (none : _) here. elim (sits_in s o.seats (seats_of (without_all qs os)) here) as (λ _. sits s (seats_of (others (o ∷ os))) ≡ true) [
        | inl mine ↦ first_other s o os (is_not none) mine
        | inr later ↦ later_other s o os (remain qs os s speaks.1 later)
      ])
      (ap (λ (l : List Occupant). sits s (seats_of l)) (sym (head_left qs o os)) ∙ sat) where
        is_not : list_any (λ q. has_seat q o) qs ≡ false → is_of address o ≡ false
        is_not none = elim (two (is_of address o)) as (λ _. is_of address o ≡ false) [
          | inl e ↦ absurd (not_both (list_any (λ q. has_seat q o) qs) (speaks.0 e) none)
          | inr e ↦ e
        ]

  -- and none of them is of that user too
  none_each : (s : ℕ) (os : List Occupant) → seat s (seats_of os) ≡ None → AllByRecursion (λ o. is_of address o ≡ true → sits s o.seats ≡ false) os
  none_each s [] none = tt
  none_each s (o ∷ os) none =
      let k = seat_rest s o.seats (seats_of os) none in
      ((λ (_ : _). k.0), none_each s os k.1)

  pub others_apart : (s : ℕ) (os : List Occupant) → AreDistinct (seats_of os) → sits s (seats_of (others os)) ≡ true
      → AllByRecursion (λ o. is_of address o ≡ true → sits s o.seats ≡ false) os
  others_apart s [] d sat = tt
  others_apart s (o ∷ os) d sat =
      let rest : AreDistinct (seats_of os) = distinct_rest o.seats (seats_of os) d in
      choose (λ (l : List Occupant). sits s (seats_of l) ≡ true → AllByRecursion (λ p. is_of address p ≡ true → sits s p.seats ≡ false) (o ∷ os))
      (not (is_of address o)) (o ∷ others os) (others os)
      (λ (isnt : not (is_of address o) ≡ true) here. (
        (λ (e : is_of address o ≡ true). absurd (not_both (not (is_of address o)) isnt (ap not e))),
        elim (sits_in s o.seats (seats_of (others os)) here) as (λ _. AllByRecursion (λ p. is_of address p ≡ true → sits s p.seats ≡ false) os) [
          | inl mine ↦ none_each s os (out s o.seats (seats_of os) d mine)
          | inr later ↦ others_apart s os rest later
        ],
      ))
      (λ (_ : _) later. (
        (λ (_ : _). one_part s o.seats (seats_of os) d (filter_sits s (λ p. not (is_of address p)) os later)),
        others_apart s os rest later,
      )) sat where
        out : (s : ℕ) (xs ys : List Seat) → AreDistinct (xs ++ ys) → sits s xs ≡ true → seat s ys ≡ None
        out s xs ys d mine = elim (two (sits s ys)) as (λ _. seat s ys ≡ None) [
          | inl e ↦ absurd (not_both (sits s xs) mine (one_part s xs ys d e))
          | inr e ↦ sits_none s ys e
        ]

-- A room stays well.

role_well : (s : ℕ) (role : Role) (r : Room) → Well r → Well (set_role s role r)
role_well s role r well = record {
  distinct = subst AreDistinct (sym (same_seats_in (role_if s role) (role_seats s role) r)) well.distinct;
  spoken = map_all Spoken Spoken (role_if s role)
      (λ o is. choose Spoken (has_seat s o) (record o { role = role }) o (λ (_ : _). is) (λ (_ : _). is)) r.occupants well.spoken;
}

pub affiliation_well : (address : Address) (a : Affiliation) (r : Room) → Well r → Well (set_affiliation address a r)
affiliation_well address a r well = record {
  distinct = subst AreDistinct (sym (same_seats_in (affiliated_if address a) (affiliated_seats address a) r)) well.distinct;
  spoken = map_all Spoken Spoken (affiliated_if address a)
      (λ o is. choose Spoken (is_of address o) (record o { affiliation = a }) o (λ (_ : _). is) (λ (_ : _). is)) r.occupants well.spoken;
}

without_well : (s : ℕ) (r : Room) → Well r → Well (without_occupant s r)
without_well s r well = record {
  distinct = distinct_filter (λ o. not (has_seat s o)) r.occupants well.distinct;
  spoken = filter_all Spoken (λ o. not (has_seat s o)) r.occupants well.spoken;
}

pub with_well : (s : ℕ) (role : Role) (r : Room) → Well r → Well (with_role s role r)
with_well s Nobody r well = without_well s r well
with_well s Moderator r well = role_well s Moderator r well
with_well s Participant r well = role_well s Participant r well
with_well s Visitor r well = role_well s Visitor r well

pub roles_well : (qs : List ℕ) (role : Role) (r : Room) → Well r → Well (with_roles qs role r)
roles_well [] role r well = well
roles_well (q ∷ qs) role r well = roles_well qs role (with_role q role r) (with_well q role r well)

pub with_number : (s : ℕ) (role : Role) (r : Room) → (with_role s role r).number ≡ r.number
with_number s Nobody r = refl
with_number s Moderator r = refl
with_number s Participant r = refl
with_number s Visitor r = refl

pub roles_number : (qs : List ℕ) (role : Role) (r : Room) → (with_roles qs role r).number ≡ r.number
roles_number [] role r = refl
roles_number (q ∷ qs) role r = roles_number qs role (with_role q role r) ∙ with_number q role r
