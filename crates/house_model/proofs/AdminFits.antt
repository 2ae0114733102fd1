-- What comes of each item of a set fits the room as it is when its turn comes: who is removed by one is in the room until then, and the others are
-- in it afterwards.
use Rattle.std.proofs.Common.{◌≡◌, ℕ, ◌==◌, List, [], ◌∷◌, ◌++◌, map, not, sym, refl, ap, ◌∙◌, subst, inl, inr, Bool, true, false}
use Rattle.std.proofs.Common.{Option, Some, None, IfSome, if◌then◌else◌}
use Rattle.std.specs.List.{AllByRecursion, filter, find}
use Rattle.std.proofs.lemmas.Bool.{eq-eqb}
use Rattle.jid_core.specs.Addresses.{Address}
use Rattle.stanza_model.specs.declared.effect.Effect.{Effect}
use Rattle.stanza_model.specs.declared.room.Affiliation.{Affiliation}
use Rattle.stanza_model.specs.declared.room.Occupant.{Occupant}
use Rattle.stanza_model.specs.declared.room.Role.{Role}
use Rattle.stanza_model.specs.declared.room.Role.TheVariants.{Moderator, Participant, Visitor, Nobody}
use Rattle.stanza_model.specs.declared.room.Room.{Room}
use Rattle.stanza_model.specs.declared.room.Seat.{Seat}
use Rattle.muc_room.specs.Seats.{affiliation_of, has_nick, has_seat, holder_of}
use Rattle.muc_room.specs.States.{affiliated_if, is_of, role_if, set_affiliation}
use Rattle.muc_admin.specs.Afterwards as item
use Rattle.muc_admin.specs.Afterwards.{after_role, speakers, with_role, with_roles, with_user}
use Rattle.muc_admin.specs.Listings.{is_same_affiliation, is_same_role}
use Rattle.muc_admin.specs.Sets.{after_all, all_effects}
use Rattle.muc_admin.specs.Telling.{affiliation_told, all_told, effects_of, kicked, leaving, new_role, removal_code, role_told, told}
use Rattle.muc_admin.specs.declared.item.Wanted.{Wanted}
use Rattle.muc_admin.specs.declared.item.Wanted.TheVariants as wanted
use Rattle.muc_service.specs.Casting.{after}
use Rattle.muc_service.specs.Rooms.{Rooms}
use Rattle.house_model.specs.RoomFits.{AreOf}
use Rattle.house_model.proofs.Outs.{after_then}
use Rattle.house_model.proofs.Removals.{Spoken, Well, affiliation_well, each_speaks, left_seats, others, others_apart, remain, roles_left, roles_number}
use Rattle.house_model.proofs.Removals.{roles_stay, roles_well, with_number, with_well, without_all}
use Rattle.house_model.proofs.RoomsThere.{AllMeet, Holds, all_of, fewer_holds, holds_after, left_by, left_then, meet_then, of_then}
use Rattle.house_model.proofs.SeatLemmas.{seat, seats_of, two, without, AreDistinct}
use Rattle.house_model.proofs.Sitting.{distinct_first, filter_sits, none_sits, not_both, one_part, sits, sits_in, sits_left, sits_one}
use Rattle.house_model.proofs.Sitting.{sits_right, sits_without}
use Rattle.house_model.proofs.StayEnters.{neither}
use Rattle.house_model.proofs.StayLemmas.{choose}
use Rattle.house_model.proofs.StayNicks.{distinct_rest}
use Rattle.house_model.proofs.StayWhole.{affiliated_seats, role_seats, same_seats_in}

-- Each session of an occupant leaves.

leaving_meets : (n m : ℕ) → m ≡ n → (xs inside : List Seat) → AreDistinct xs → ((s : ℕ) → sits s xs ≡ true → sits s inside ≡ true)
    → AllMeet n inside (map (leaving m) xs)
leaving_meets n m is [] inside d all = tt
leaving_meets n m is (x ∷ xs) inside d all = (
  (is, all x.session (sits_one x xs)),
  leaving_meets n m is xs (without x.session inside) d.1
      (λ s sat. sits_without s x.session inside
      (λ (e : s ≡ x.session). not_both (sits s xs) sat (none_sits s xs (subst (λ (k : ℕ). seat k xs ≡ None) (sym e) d.0)))
      (all s (sits_right s (x ∷ []) xs sat))),
)

leaving_left : (m : ℕ) (xs inside : List Seat) (s : ℕ) → sits s inside ≡ true → sits s xs ≡ false → sits s (left_by (map (leaving m) xs) inside) ≡ true
leaving_left m [] inside s is out = is
leaving_left m (x ∷ xs) inside s is out =
    let k = neither (x.session == s) (sits s xs) out in
    leaving_left m xs (without x.session inside) s
    (sits_without s x.session inside (λ (e : s ≡ x.session). not_both (x.session == s) (eq-eqb x.session s (sym e)) k.0) is) k.1

-- What an occupant is told.

told_meets : (n : ℕ) (r : Room) → r.number ≡ n → (o : Occupant) (a : Affiliation) (role : Role) (code : ℕ) (inside : List Seat) → AreDistinct o.seats → Spoken o
    → ((s : ℕ) → sits s o.seats ≡ true → sits s inside ≡ true) → AllMeet n inside (told r o a role code)
told_meets n r is o a Nobody code inside d spoken all = (is, leaving_meets n r.number is o.seats inside d all)
told_meets n r is o a Moderator code inside d spoken all = ((is, all o.spoke spoken), (is, tt))
told_meets n r is o a Participant code inside d spoken all = ((is, all o.spoke spoken), (is, tt))
told_meets n r is o a Visitor code inside d spoken all = ((is, all o.spoke spoken), (is, tt))

told_left : (r : Room) (o : Occupant) (a : Affiliation) (role : Role) (code : ℕ) (inside : List Seat) (s : ℕ) → sits s inside ≡ true → sits s o.seats ≡ false
    → sits s (left_by (told r o a role code) inside) ≡ true
told_left r o a Nobody code inside s is out = leaving_left r.number o.seats inside s is out
told_left r o a Moderator code inside s is out = is
told_left r o a Participant code inside s is out = is
told_left r o a Visitor code inside s is out = is

-- nobody leaves who has a role
told_stays : (r : Room) (o : Occupant) (a : Affiliation) (role : Role) (code : ℕ) (inside : List Seat) → (role ≡ Nobody → ⊥)
    → left_by (told r o a role code) inside ≡ inside
told_stays r o a Nobody code inside has = absurd (has refl)
told_stays r o a Moderator code inside has = refl
told_stays r o a Participant code inside has = refl
told_stays r o a Visitor code inside has = refl

module _ (n : ℕ) (r : Room) (is : r.number ≡ n) (address : Address) (a : Affiliation) where
  abbrev one_told : Occupant → List Effect
  one_told o = told r o a (new_role r.config a) (removal_code a)

  all_told_meets : (os : List Occupant) (inside : List Seat) → AreDistinct (seats_of os) → AllByRecursion Spoken os
      → ((s : ℕ) → sits s (seats_of os) ≡ true → sits s inside ≡ true) → AllMeet n inside (all_told r address a os)
  all_told_meets [] inside d spoken all = tt
  all_told_meets (o ∷ os) inside d spoken all =
      let rest : AreDistinct (seats_of os) = distinct_rest o.seats (seats_of os) d in
      choose (λ (es : List Effect). AllMeet n inside (es ++ all_told r address a os)) (is_of address o) (one_told o) []
      (λ (_ : _). meet_then (one_told o) (all_told r address a os) n inside
      (told_meets n r is o a (new_role r.config a) (removal_code a) inside (distinct_first o.seats (seats_of os) d) spoken.0
      (λ s sat. all s (sits_left s o.seats (seats_of os) sat)))
      (all_told_meets os (left_by (one_told o) inside) rest spoken.1
      (λ s sat. told_left r o a (new_role r.config a) (removal_code a) inside s (all s (sits_right s o.seats (seats_of os) sat))
      (one_part s o.seats (seats_of os) d sat))))
      (λ (_ : _). all_told_meets os inside rest spoken.1 (λ s sat. all s (sits_right s o.seats (seats_of os) sat)))

  -- one that isn't of that user is in the room afterwards
  all_told_left : (os : List Occupant) (inside : List Seat) (s : ℕ) → sits s inside ≡ true
      → AllByRecursion (λ o. is_of address o ≡ true → sits s o.seats ≡ false) os → sits s (left_by (all_told r address a os) inside) ≡ true
  all_told_left [] inside s sat each = sat
  all_told_left (o ∷ os) inside s sat each =
      choose (λ (es : List Effect). sits s (left_by (es ++ all_told r address a os) inside) ≡ true) (is_of address o) (one_told o) []
      (λ (e : _). subst (λ (l : List Seat). sits s l ≡ true) (sym (left_then (one_told o) (all_told r address a os) inside))
      (all_told_left os (left_by (one_told o) inside) s
      (told_left r o a (new_role r.config a) (removal_code a) inside s sat (each.0 e)) each.1))
      (λ (_ : _). all_told_left os inside s sat each.1)

  all_told_stays : (os : List Occupant) (inside : List Seat) → (new_role r.config a ≡ Nobody → ⊥) → left_by (all_told r address a os) inside ≡ inside
  all_told_stays [] inside has = refl
  all_told_stays (o ∷ os) inside has =
      choose (λ (es : List Effect). left_by (es ++ all_told r address a os) inside ≡ inside) (is_of address o) (one_told o) []
      (λ (_ : _). left_then (one_told o) (all_told r address a os) inside
      ∙ (ap (left_by (all_told r address a os)) (told_stays r o a (new_role r.config a) (removal_code a) inside has) ∙ all_told_stays os inside has))
      (λ (_ : _). all_told_stays os inside has)

-- What comes of one item.

record Fit (n : ℕ) (room : Room) (es : List Effect) (later : Room) : Type 0 where
  meets : AllMeet n (seats_of room.occupants) es
  left : (s : ℕ) → sits s (seats_of later.occupants) ≡ true → sits s (left_by es (seats_of room.occupants)) ≡ true
  well : Well later
  number : later.number ≡ n

-- an occupant that is found
record Among (os : List Occupant) (o : Occupant) : Type 0 where
  distinct : AreDistinct o.seats
  spoken : Spoken o
  seats : (s : ℕ) → sits s o.seats ≡ true → sits s (seats_of os) ≡ true
  apart : (s : ℕ) → sits s (seats_of (filter (λ p. not (has_seat o.spoke p)) os)) ≡ true → sits s o.seats ≡ false

found_among : (test : Occupant → Bool) (os : List Occupant) (o : Occupant) → find test os ≡ Some o → AreDistinct (seats_of os) → AllByRecursion Spoken os
    → Among os o
found_among test [] o is d spoken = absurd (let z : None ≡ Some o = is in cc)
found_among test (x ∷ xs) o is d spoken =
    elim (two (test x)) as (λ _. Among (x ∷ xs) o) [
      | inl e ↦ (
          let z : Some x ≡ Some o = rw e at is in
          let same : x ≡ o = cc in
          subst (Among (x ∷ xs)) same (record {
            distinct = distinct_first x.seats (seats_of xs) d;
            spoken = spoken.0;
            seats = λ s sat. sits_left s x.seats (seats_of xs) sat;
            apart = λ s sat.
                choose (λ (l : List Occupant). sits s (seats_of l) ≡ true → sits s x.seats ≡ false) (not (has_seat x.spoke x))
                (x ∷ filter (λ p. not (has_seat x.spoke p)) xs) (filter (λ p. not (has_seat x.spoke p)) xs)
                (λ (f : not (has_seat x.spoke x) ≡ true) _. absurd (not_both (not (has_seat x.spoke x)) f (ap not spoken.0)))
                (λ (_ : _) later. one_part s x.seats (seats_of xs) d (filter_sits s (λ p. not (has_seat x.spoke p)) xs later)) sat;
          }))
      | inr e ↦ (
          let k : Among xs o = found_among test xs o (rw e at is) (distinct_rest x.seats (seats_of xs) d) spoken.1 in
          record {
            distinct = k.distinct;
            spoken = k.spoken;
            seats = λ s sat. sits_right s x.seats (seats_of xs) (k.seats s sat);
            apart = λ s sat.
                choose (λ (l : List Occupant). sits s (seats_of l) ≡ true → sits s o.seats ≡ false) (not (has_seat o.spoke x))
                (x ∷ filter (λ p. not (has_seat o.spoke p)) xs) (filter (λ p. not (has_seat o.spoke p)) xs)
                (λ (_ : _) here. elim (sits_in s x.seats (seats_of (filter (λ p. not (has_seat o.spoke p)) xs)) here) as (λ _. sits s o.seats ≡ false) [
                  | inl mine ↦ elim (two (sits s o.seats)) as (λ _. sits s o.seats ≡ false) [
                    | inl both ↦ absurd (not_both (sits s x.seats) mine (one_part s x.seats (seats_of xs) d (k.seats s both)))
                    | inr out ↦ out
                  ]
                  | inr later ↦ k.apart s later
                ])
                (λ (_ : _) later. k.apart s later) sat;
          })
    ]

found_if : (test : Occupant → Bool) (os : List Occupant) (o : Option Occupant) → find test os ≡ o → AreDistinct (seats_of os) → AllByRecursion Spoken os
    → IfSome o (Among os)
found_if test os None is d spoken = tt
found_if test os (Some o) is d spoken = found_among test os o is d spoken

module _ (n : ℕ) (room : Room) (is : room.number ≡ n) (well : Well room) where
  nothing : Fit n room [] room
  nothing = record { meets = tt; left = λ s sat. sat; well = well; number = is }

  role_changes : (o : Occupant) (role : Role) → Among room.occupants o → Fit n room (told room o o.affiliation role kicked) (with_role o.spoke role room)
  role_changes o role among = record {
    meets = told_meets n room is o o.affiliation role kicked (seats_of room.occupants) among.distinct among.spoken among.seats;
    left = λ s sat. by role s sat;
    well = with_well o.spoke role room well;
    number = with_number o.spoke role room ∙ is;
  } where
    by : (role : Role) (s : ℕ) → sits s (seats_of (with_role o.spoke role room).occupants) ≡ true
        → sits s (left_by (told room o o.affiliation role kicked) (seats_of room.occupants)) ≡ true
    by Nobody s sat =
        told_left room o o.affiliation Nobody kicked (seats_of room.occupants) s
        (filter_sits s (λ p. not (has_seat o.spoke p)) room.occupants sat) (among.apart s sat)
    by Moderator s sat = subst (λ (l : List Seat). sits s l ≡ true) (same_seats_in (role_if o.spoke Moderator) (role_seats o.spoke Moderator) room) sat
    by Participant s sat = subst (λ (l : List Seat). sits s l ≡ true) (same_seats_in (role_if o.spoke Participant) (role_seats o.spoke Participant) room) sat
    by Visitor s sat = subst (λ (l : List Seat). sits s l ≡ true) (same_seats_in (role_if o.spoke Visitor) (role_seats o.spoke Visitor) room) sat

  role_fit : (role : Role) (o : Option Occupant) → IfSome o (Among room.occupants)
      → Fit n room (role_told room role o) (after_role role (item.changed_by role o) room)
  role_fit role None found = nothing
  role_fit role (Some o) found = by (is_same_role o.role role) where
    by : (b : Bool) → Fit n room (if b then [] else told room o o.affiliation role kicked) (after_role role (if b then None else Some o.spoke) room)
    by true = nothing
    by false = role_changes o role found

  affiliation_changes : (address : Address) (a : Affiliation) → Fit n room (affiliation_told room address a) (with_user address a room)
  affiliation_changes address a = record {
    meets = (is, all_told_meets n room is address a room.occupants (seats_of room.occupants) well.distinct well.spoken (λ s sat. sat));
    left = λ s sat. by (new_role room.config a) refl s sat;
    well = roles_well qs (new_role room.config a) set (affiliation_well address a room well);
    number = roles_number qs (new_role room.config a) set ∙ is;
  } where
    qs : List ℕ
    qs = speakers address room.occupants

    set : Room
    set = set_affiliation address a room

    stays : (role : Role) → new_role room.config a ≡ role → (role ≡ Nobody → ⊥) → (s : ℕ) → sits s (seats_of (with_roles qs role set).occupants) ≡ true
        → sits s (left_by (affiliation_told room address a) (seats_of room.occupants)) ≡ true
    stays role same has s sat =
        let kept : left_by (all_told room address a room.occupants) (seats_of room.occupants) ≡ seats_of room.occupants =
        all_told_stays n room is address a room.occupants (seats_of room.occupants) (λ e. has (sym same ∙ e)) in
        ap (sits s) (kept ∙ (sym (same_seats_in (affiliated_if address a) (affiliated_seats address a) room) ∙ sym (roles_stay qs role has set))) ∙ sat

    by : (role : Role) → new_role room.config a ≡ role → (s : ℕ) → sits s (seats_of (with_roles qs role set).occupants) ≡ true
        → sits s (left_by (affiliation_told room address a) (seats_of room.occupants)) ≡ true
    by Nobody same s sat =
        let left : sits s (seats_of (without_all qs room.occupants)) ≡ true =
        ap (sits s) (sym (left_seats (affiliated_if address a) (affiliated_seats address a) qs room.occupants))
        ∙ (ap (λ (l : List Occupant). sits s (seats_of l)) (sym (roles_left qs set)) ∙ sat) in
        let other : sits s (seats_of (others address room.occupants)) ≡ true =
        remain address qs room.occupants s (each_speaks address [] room.occupants well.spoken) left in
        all_told_left n room is address a room.occupants (seats_of room.occupants) s
        (filter_sits s (λ p. not (is_of address p)) room.occupants other) (others_apart address s room.occupants well.distinct other)
    by Moderator same s sat = stays Moderator same (λ (e : Moderator ≡ Nobody). cc) s sat
    by Participant same s sat = stays Participant same (λ (e : Participant ≡ Nobody). cc) s sat
    by Visitor same s sat = stays Visitor same (λ (e : Visitor ≡ Nobody). cc) s sat

  item_fit : (w : Wanted) → Fit n room (effects_of room w) (item.after w room)
  item_fit (wanted.Role nick role) =
      role_fit role (holder_of nick room.occupants)
      (found_if (has_nick nick) room.occupants (holder_of nick room.occupants) refl well.distinct well.spoken)
  item_fit (wanted.Affiliation address a) = by (is_same_affiliation (affiliation_of address room.affiliations) a) where
    by : (b : Bool) → Fit n room (if b then [] else affiliation_told room address a) (if b then room else with_user address a room)
    by true = nothing
    by false = affiliation_changes address a
  item_fit wanted.Garbled = nothing

-- What comes of all of them, and the room afterwards.

pub record AllFit (n : ℕ) (rooms : Rooms) (room : Room) (ws : List Wanted) : Type 0 where
  pub fits : AreOf rooms (all_effects room ws)
  pub holds : Holds (after rooms (all_effects room ws)) n (seats_of (after_all ws room).occupants)
  pub number : (after_all ws room).number ≡ n

pub wanted_fit : (ws : List Wanted) (n : ℕ) (room : Room) → room.number ≡ n → Well room → (rooms : Rooms) → Holds rooms n (seats_of room.occupants)
    → AllFit n rooms room ws
wanted_fit [] n room is well rooms holds = record { fits = tt; holds = holds; number = is }
wanted_fit (w ∷ ws) n room is well rooms holds =
    let inside : List Seat = seats_of room.occupants in
    let es : List Effect = effects_of room w in
    let later : Room = item.after w room in
    let fit : Fit n room es later = item_fit n room is well w in
    let held : Holds (after rooms es) n (seats_of later.occupants) =
    fewer_holds (after rooms es) n (left_by es inside) (seats_of later.occupants) fit.left (holds_after es rooms n inside holds fit.meets) in
    let rest : AllFit n (after rooms es) later ws = wanted_fit ws n later fit.number fit.well (after rooms es) held in
    record {
      fits = of_then es (all_effects later ws) rooms (all_of es rooms n inside holds fit.meets) rest.fits;
      holds = subst (λ (rs : Rooms). Holds rs n (seats_of (after_all ws later).occupants)) (sym (after_then es (all_effects later ws) rooms)) rest.holds;
      number = rest.number;
    }
