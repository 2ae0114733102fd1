-- The seats of a room, as a list: who has one, and how it changes.
use Rattle.std.proofs.Common.{◌≡◌, ℕ, ◌==◌, List, [], ◌∷◌, ◌++◌, map, flat_map, length, sym, refl, ap, ◌∙◌, inl, inr, ◌⊎◌, arith, Bool, true, false}
use Rattle.std.proofs.Common.{not, Option, Some, None, if◌then◌else◌}
use Rattle.std.specs.List.{filter}
use Rattle.std.proofs.lemmas.Bool.{cases_eq, eq-eqb, ne_eqb}
use Rattle.std.proofs.lemmas.List.Elements.{filter-append}
use Rattle.stanza_model.specs.declared.room.Occupant.{Occupant}
use Rattle.stanza_model.specs.declared.room.Seat.{Seat}
use Rattle.muc_service.specs.Rooms.{without_seat, has_seats}

-- the stay of a session's seat
abbrev pub seat : ℕ → List Seat → Option ℕ
seat s [] = None
seat s (o ∷ os) = if o.session == s then Some o.stay else seat s os

abbrev pub AreDistinct : List Seat → Type 0
AreDistinct [] = Unit {0}
AreDistinct (o ∷ os) = (seat o.session os ≡ None) × AreDistinct os

pub seat_none : (s : ℕ) (o : Seat) (os : List Seat) → seat s (o ∷ os) ≡ None → (s ≡ o.session → ⊥) × (seat s os ≡ None)
seat_none s o os h =
    elim (cases_eq o.session s) as (λ _. (s ≡ o.session → ⊥) × (seat s os ≡ None)) [
      | inl e ↦ (let h' : Some o.stay ≡ None =
          (let t : (o.session == s) ≡ true = eq-eqb o.session s e in rw t at h) in absurd (let z : Some o.stay ≡ None = h' in cc))
      | inr ne ↦ ((λ q. ne (sym q)), (let t : (o.session == s) ≡ false = ne_eqb o.session s ne in rw t at h))
    ]

-- a seat that joins, wherever it stands

pub seat_insert_other : (s : ℕ) (xs ys : List Seat) (o : Seat) → (s ≡ o.session → ⊥) → seat s (xs ++ o ∷ ys) ≡ seat s (xs ++ ys)
seat_insert_other s [] ys o ne = rw (ne_eqb o.session s (λ q. ne (sym q))) refl
seat_insert_other s (p ∷ ps) ys o ne = ap (λ (t : Option ℕ). if p.session == s then Some p.stay else t) (seat_insert_other s ps ys o ne)

pub seat_insert_here : (xs ys : List Seat) (o : Seat) → seat o.session (xs ++ ys) ≡ None → seat o.session (xs ++ o ∷ ys) ≡ Some o.stay
seat_insert_here [] ys o h = rw (eq-eqb o.session o.session refl) refl
seat_insert_here (p ∷ ps) ys o h =
    let k = seat_none o.session p (ps ++ ys) h in
    (let t : (p.session == o.session) ≡ false = ne_eqb p.session o.session (λ q. k.0 (sym q)) in rw t (seat_insert_here ps ys o k.1))

pub distinct_insert : (xs ys : List Seat) (o : Seat) → AreDistinct (xs ++ ys) → seat o.session (xs ++ ys) ≡ None → AreDistinct (xs ++ o ∷ ys)
distinct_insert [] ys o d h = (h, d)
distinct_insert (p ∷ ps) ys o d h =
    let k = seat_none o.session p (ps ++ ys) h in
    (seat_insert_other p.session ps ys o (λ q. k.0 (sym q)) ∙ d.0, distinct_insert ps ys o d.1 k.1)

-- the seats without those of a session

abbrev pub without : ℕ → List Seat → List Seat
without s os = filter (λ o. not (o.session == s)) os

-- a property of a filter's result, from both cases of its head
kept_or_not : (P : List Seat → Type 0) (s : ℕ) (o : Seat) (os : List Seat) → ((o.session ≡ s) → P (without s os)) → ((o.session ≡ s → ⊥) → P (o ∷ without s os))
    → P (without s (o ∷ os))
kept_or_not P s o os f g =
    elim (cases_eq o.session s) as (λ _. P (without s (o ∷ os))) [
      | inl e ↦ (let t : (o.session == s) ≡ true = eq-eqb o.session s e in rw t (f e))
      | inr ne ↦ (let t : (o.session == s) ≡ false = ne_eqb o.session s ne in rw t (g ne))
    ]

pub seat_without : (s j : ℕ) (os : List Seat) → (j ≡ s → ⊥) → seat j (without s os) ≡ seat j os
seat_without s j [] ne = refl
seat_without s j (o ∷ os) ne =
    kept_or_not (λ (l : List Seat). seat j l ≡ seat j (o ∷ os)) s o os
    (λ (e : _). let t : (o.session == j) ≡ false = ne_eqb o.session j (λ q. ne (sym q ∙ e)) in rw t (seat_without s j os ne))
    (λ (_ : _). ap (λ (t : Option ℕ). if o.session == j then Some o.stay else t) (seat_without s j os ne))

pub none_of : (s : ℕ) (os : List Seat) → seat s (without s os) ≡ None
none_of s [] = refl
none_of s (o ∷ os) =
    kept_or_not (λ (l : List Seat). seat s l ≡ None) s o os
    (λ (_ : _). none_of s os)
    (λ (ne : _). let t : (o.session == s) ≡ false = ne_eqb o.session s ne in rw t (none_of s os))

pub seat_without_none : (s j : ℕ) (os : List Seat) → seat j os ≡ None → seat j (without s os) ≡ None
seat_without_none s j [] h = refl
seat_without_none s j (o ∷ os) h =
    let k = seat_none j o os h in
    kept_or_not (λ (l : List Seat). seat j l ≡ None) s o os
    (λ (_ : _). seat_without_none s j os k.1)
    (λ (_ : _). let t : (o.session == j) ≡ false = ne_eqb o.session j (λ q. k.0 (sym q)) in rw t (seat_without_none s j os k.1))

pub distinct_without : (s : ℕ) (os : List Seat) → AreDistinct os → AreDistinct (without s os)
distinct_without s [] d = tt
distinct_without s (o ∷ os) d =
    kept_or_not AreDistinct s o os
    (λ (_ : _). distinct_without s os d.1)
    (λ (_ : _). (seat_without_none s o.session os d.0, distinct_without s os d.1))

-- what holds of each seat

abbrev pub EachSeat : (Seat → Type 0) → List Seat → Type 0
EachSeat P [] = Unit {0}
EachSeat P (o ∷ os) = P o × EachSeat P os

pub each_without : (P : Seat → Type 0) (s : ℕ) (os : List Seat) → EachSeat P os → EachSeat P (without s os)
each_without P s [] h = tt
each_without P s (o ∷ os) h = kept_or_not (EachSeat P) s o os (λ (_ : _). each_without P s os h.1) (λ (_ : _). (h.0, each_without P s os h.1))

pub each_insert : (P : Seat → Type 0) (xs ys : List Seat) (o : Seat) → P o → EachSeat P (xs ++ ys) → EachSeat P (xs ++ o ∷ ys)
each_insert P [] ys o p h = (p, h)
each_insert P (x ∷ xs) ys o p h = (h.0, each_insert P xs ys o p h.1)

pub each_by : (P Q : Seat → Type 0) (os : List Seat) → ((o : Seat) → P o → Q o) → EachSeat P os → EachSeat Q os
each_by P Q [] f h = tt
each_by P Q (o ∷ os) f h = (f o h.0, each_by P Q os f h.1)

-- the seats of occupants

abbrev pub seats_of : List Occupant → List Seat
seats_of os = flat_map (λ o. o.seats) os

pub seats_map : (f : Occupant → Occupant) → ((o : Occupant) → (f o).seats ≡ o.seats) → (os : List Occupant) → seats_of (map f os) ≡ seats_of os
seats_map f same [] = refl
seats_map f same (o ∷ os) = ap (λ (l : List Seat). l ++ seats_of (map f os)) (same o) ∙ ap (λ (l : List Seat). o.seats ++ l) (seats_map f same os)

pub two : (b : Bool) → (b ≡ true) ⊎ (b ≡ false)
two true = inl refl
two false = inr refl

no_seats : (l : List Seat) → not (length l == 0) ≡ false → l ≡ []
no_seats [] h = refl
no_seats (x ∷ xs) h =
    let t : (length (x ∷ xs) == 0) ≡ false = ne_eqb (length (x ∷ xs)) 0 (λ (e : length (x ∷ xs) ≡ 0). absurd (omega arith)) in
    absurd (let z : true ≡ false = ap not (sym t) ∙ h in cc)

pub seats_kept : (os : List Occupant) → seats_of (filter has_seats os) ≡ seats_of os
seats_kept [] = refl
seats_kept (o ∷ os) =
    elim (two (has_seats o)) as (λ _. seats_of (filter has_seats (o ∷ os)) ≡ seats_of (o ∷ os)) [
      | inl e ↦ (let t : has_seats o ≡ true = e in rw t (ap (λ (l : List Seat). o.seats ++ l) (seats_kept os)))
      | inr e ↦ (let t : has_seats o ≡ false = e in rw t (seats_kept os ∙ ap (λ (l : List Seat). l ++ seats_of os) (sym (no_seats o.seats e))))
    ]

pub seats_left : (s : ℕ) (os : List Occupant) → seats_of (map (without_seat s) os) ≡ without s (seats_of os)
seats_left s [] = refl
seats_left s (o ∷ os) =
    ap (λ (l : List Seat). without s o.seats ++ l) (seats_left s os)
    ∙ sym (filter-append (λ x. not (x.session == s)) o.seats (seats_of os))
