-- What each effect makes of the rooms that are there, as far as a stay sees it: a room's seats, and how many items it broadcast.
use Rattle.std.proofs.Common.{◌≡◌, ℕ, ◌+◌, ◌==◌, List, [], ◌∷◌, ◌++◌, map, sym, refl, ap, ◌∙◌, inl, inr, append_assoc, Bool, true, false, not, Option}
use Rattle.std.proofs.Common.{Some, None, if◌then◌else◌}
use Rattle.std.specs.List.{filter, find, list_any}
use Rattle.std.specs.Option.{option_map}
use Rattle.std.proofs.lemmas.Bool.{eqb-true, eq-eqb, ne_eqb}
use Rattle.stanza_model.specs.declared.room.Occupant.{Occupant}
use Rattle.stanza_model.specs.declared.room.Room.{Room}
use Rattle.stanza_model.specs.declared.room.Seat.{Seat}
use Rattle.muc_room.specs.Seats.{has_nick}
use Rattle.muc_service.specs.Rooms.{Hosted, changed_in, counted_in, joined_if}
use Rattle.house_model.specs.Numbered.{put}
use Rattle.house_model.proofs.StayLemmas.{choose, put_both}
use Rattle.house_model.proofs.SeatLemmas.{seats_of, two}

pub record Face : Type 0 where
  pub seats : List Seat
  pub items : ℕ

abbrev pub face_of : Hosted → Face
face_of h = record { seats = seats_of h.room.occupants; items = h.items }

-- the room of a number, among those that are there
abbrev pub found : ℕ → List Hosted → Option Hosted
found n hs = find (λ h. h.room.number == n) hs

abbrev pub face : List Hosted → ℕ → Option Face
face hs n = option_map face_of (found n hs)

-- the first room of this number is another
abbrev pub altered : ℕ → (Hosted → Hosted) → List Hosted → List Hosted
altered n g [] = []
altered n g (h ∷ more) = if h.room.number == n then g h ∷ more else h ∷ altered n g more

pub changed_altered : (n : ℕ) (f : Room → Room) (hs : List Hosted) → changed_in n f hs ≡ altered n (λ h. record h { room = f h.room }) hs
changed_altered n f [] = refl
changed_altered n f (h ∷ more) = ap (λ (l : List Hosted). if h.room.number == n then record h { room = f h.room } ∷ more else h ∷ l) (changed_altered n f more)

pub counted_altered : (n : ℕ) (hs : List Hosted) → counted_in n hs ≡ altered n (λ h. record h { items = h.items + 1 }) hs
counted_altered n [] = refl
counted_altered n (h ∷ more) = ap (λ (l : List Hosted). if h.room.number == n then record h { items = h.items + 1 } ∷ more else h ∷ l) (counted_altered n more)

altered_here : (n : ℕ) (g : Hosted → Hosted) (hs : List Hosted) → ((h : Hosted) → (g h).room.number ≡ h.room.number)
    → found n (altered n g hs) ≡ option_map g (found n hs)
altered_here n g [] same = refl
altered_here n g (h ∷ more) same =
    elim (two (h.room.number == n)) as (λ _. found n (altered n g (h ∷ more)) ≡ option_map g (found n (h ∷ more))) [
      | inl e ↦ (let t : ((g h).room.number == n) ≡ true = ap (λ (k : ℕ). k == n) (same h) ∙ e in rw (e, t) refl)
      | inr e ↦ rw e (rw e (altered_here n g more same))
    ]

altered_else : (n m : ℕ) (g : Hosted → Hosted) (hs : List Hosted) → ((h : Hosted) → (g h).room.number ≡ h.room.number) → (m ≡ n → ⊥)
    → found m (altered n g hs) ≡ found m hs
altered_else n m g [] same ne = refl
altered_else n m g (h ∷ more) same ne =
    choose (λ (l : List Hosted). found m l ≡ found m (h ∷ more)) (h.room.number == n) (g h ∷ more) (h ∷ altered n g more)
    (λ (e : (h.room.number == n) ≡ true).
    let t : (h.room.number == m) ≡ false = ne_eqb h.room.number m (λ q. ne (sym q ∙ eqb-true h.room.number n e)) in
    let u : ((g h).room.number == m) ≡ false = ap (λ (k : ℕ). k == m) (same h) ∙ t in
    rw (t, u) refl)
    (λ (_ : _). ap (λ (o : Option Hosted). if h.room.number == m then Some h else o) (altered_else n m g more same ne))

pub altered_is : (n : ℕ) (g : Hosted → Hosted) (hs : List Hosted) → ((h : Hosted) → (g h).room.number ≡ h.room.number)
    → (m : ℕ) → found m (altered n g hs) ≡ put n (option_map g (found n hs)) (λ k. found k hs) m
altered_is n g hs same m =
    put_both (λ k (o : Option Hosted). found k (altered n g hs) ≡ o) n (option_map g (found n hs)) (λ k. found k hs)
    (altered_here n g hs same) (λ k ne. altered_else n k g hs same ne) m

pushed_else : (h : Hosted) (hs : List Hosted) (k : ℕ) → (k ≡ h.room.number → ⊥) → found k (hs ++ h ∷ []) ≡ found k hs
pushed_else h [] k ne = rw (ne_eqb h.room.number k (λ q. ne (sym q))) refl
pushed_else h (x ∷ xs) k ne = ap (λ (o : Option Hosted). if x.room.number == k then Some x else o) (pushed_else h xs k ne)

pushed_here : (h : Hosted) (hs : List Hosted) → found h.room.number hs ≡ None → found h.room.number (hs ++ h ∷ []) ≡ Some h
pushed_here h [] out = rw (eq-eqb h.room.number h.room.number refl) refl
pushed_here h (x ∷ xs) out =
    elim (two (x.room.number == h.room.number)) as (λ _. found h.room.number ((x ∷ xs) ++ h ∷ []) ≡ Some h) [
      | inl e ↦ absurd (let z : Some x ≡ None = rw e at out in cc)
      | inr e ↦ (let out' : found h.room.number xs ≡ None = rw e at out in rw e (pushed_here h xs out'))
    ]

-- a room that is new among them
pub added_is : (h : Hosted) (hs : List Hosted) → found h.room.number hs ≡ None
    → (m : ℕ) → found m (hs ++ h ∷ []) ≡ put h.room.number (Some h) (λ k. found k hs) m
added_is h hs out m =
    put_both (λ k (o : Option Hosted). found k (hs ++ h ∷ []) ≡ o) h.room.number (Some h) (λ k. found k hs) (pushed_here h hs out)
    (λ k ne. pushed_else h hs k ne) m

-- a room that is there no more

removed_here : (n : ℕ) (hs : List Hosted) → found n (filter (λ h. not (h.room.number == n)) hs) ≡ None
removed_here n [] = refl
removed_here n (h ∷ more) =
    elim (two (h.room.number == n)) as (λ _. found n (filter (λ x. not (x.room.number == n)) (h ∷ more)) ≡ None) [
      | inl e ↦ rw e (removed_here n more)
      | inr e ↦ rw e (rw e (removed_here n more))
    ]

removed_else : (n m : ℕ) (hs : List Hosted) → (m ≡ n → ⊥) → found m (filter (λ h. not (h.room.number == n)) hs) ≡ found m hs
removed_else n m [] ne = refl
removed_else n m (h ∷ more) ne =
    elim (two (h.room.number == n)) as (λ _. found m (filter (λ x. not (x.room.number == n)) (h ∷ more)) ≡ found m (h ∷ more)) [
      | inl e ↦ (let t : (h.room.number == m) ≡ false =
          ne_eqb h.room.number m (λ q. ne (sym q ∙ eqb-true h.room.number n e)) in rw (e, t) (removed_else n m more ne))
      | inr e ↦ rw e (ap (λ (o : Option Hosted). if h.room.number == m then Some h else o) (removed_else n m more ne))
    ]

pub removed_is : (n : ℕ) (hs : List Hosted) (m : ℕ) → found m (filter (λ h. not (h.room.number == n)) hs) ≡ put n None (λ k. found k hs) m
removed_is n hs m =
    put_both (λ k (o : Option Hosted). found k (filter (λ h. not (h.room.number == n)) hs) ≡ o) n None (λ k. found k hs) (removed_here n hs)
    (λ k ne. removed_else n k hs ne) m

-- a room that is found has the number
pub found_number : (n : ℕ) (hs : List Hosted) (h : Hosted) → found n hs ≡ Some h → h.room.number ≡ n
found_number n [] h is = absurd (let z : None ≡ Some h = is in cc)
found_number n (x ∷ xs) h is =
    elim (two (x.room.number == n)) as (λ _. h.room.number ≡ n) [
      | inl e ↦ (let z : Some x ≡ Some h = rw e at is in let same : x ≡ h = cc in ap (λ (y : Hosted). y.room.number) (sym same) ∙ eqb-true x.room.number n e)
      | inr e ↦ found_number n xs h (rw e at is)
    ]

-- A session that joins the occupant of its nick is one seat more, where one occupant has that nick.

abbrev pub AtMostOne : (Occupant → Bool) → List Occupant → Type 0
AtMostOne test [] = Unit {0}
AtMostOne test (o ∷ os) = (test o ≡ true → list_any test os ≡ false) × AtMostOne test os

-- one list is the other with a seat more
pub record IsInserted (x : Seat) (xs ys : List Seat) : Type 0 where
  pub before : List Seat
  pub after : List Seat
  pub old : xs ≡ before ++ after
  pub new : ys ≡ before ++ x ∷ after

none_joins : (x : Seat) (nick : List ℕ) (os : List Occupant) → list_any (has_nick nick) os ≡ false → seats_of (map (joined_if x nick) os) ≡ seats_of os
none_joins x nick [] h = refl
none_joins x nick (o ∷ os) h =
    elim (two (has_nick nick o)) as (λ _. seats_of (map (joined_if x nick) (o ∷ os)) ≡ seats_of (o ∷ os)) [
      | inl e ↦ absurd (let z : true ≡ false = rw e at h in cc)
      | inr e ↦ (let h' : list_any (has_nick nick) os ≡ false = rw e at h in rw e (ap (λ (l : List Seat). o.seats ++ l) (none_joins x nick os h')))
    ]

pub one_joins : (x : Seat) (nick : List ℕ) (os : List Occupant) → list_any (has_nick nick) os ≡ true → AtMostOne (has_nick nick) os
    → IsInserted x (seats_of os) (seats_of (map (joined_if x nick) os))
one_joins x nick [] h one = absurd (let z : false ≡ true = h in cc)
one_joins x nick (o ∷ os) h one =
    elim (two (has_nick nick o)) as (λ _. IsInserted x (seats_of (o ∷ os)) (seats_of (map (joined_if x nick) (o ∷ os)))) [
      | inl e ↦ record {
        before = o.seats;
        after = seats_of os;
        old = refl;
        new = rw e (append_assoc o.seats (x ∷ []) (seats_of (map (joined_if x nick) os))
            ∙ ap (λ (l : List Seat). o.seats ++ x ∷ l) (none_joins x nick os (one.0 e)));
      }
      | inr e ↦ (
          let h' : list_any (has_nick nick) os ≡ true = rw e at h in
          let k : IsInserted x (seats_of os) (seats_of (map (joined_if x nick) os)) = one_joins x nick os h' one.1 in
          record {
            before = o.seats ++ k.before;
            after = k.after;
            old = ap (λ (l : List Seat). o.seats ++ l) k.old ∙ sym (append_assoc o.seats k.before k.after);
            new = rw e (ap (λ (l : List Seat). o.seats ++ l) k.new ∙ sym (append_assoc o.seats k.before (x ∷ k.after)));
          })
    ]
