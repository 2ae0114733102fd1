-- A room is changed at the place where it is found.
use Rattle.std.proofs.Common.{◌≡◌, ℕ, zero, suc, ◌+◌, ◌-◌, ◌<◌, ◌≤◌, List, [], ◌∷◌, length, get_or, set, Bool, true, false, cond, Some, None, refl}
use Rattle.std.proofs.Common.{sym, ap, ◌∙◌, arith}
use Rattle.std.proofs.lemmas.Iterator.Adapters.{position_from-zero}
use Rattle.std.specs.Prelude.{◌==◌, if◌then◌else◌, max}
use Rattle.std.specs.List.{position, position_from}
use Rattle.stanza_model.specs.declared.room.Room.{Room}
use Rattle.muc_service.specs.Rooms.{Hosted, changed_in, counted_in}
use Rattle.muc_service.specs.Changing.{most_items}

abbrev pub is_room : ℕ → Hosted → Bool
is_room n h = h.room.number == n

-- the first that has the number, changed
abbrev at_first : ℕ → (Hosted → Hosted) → List Hosted → List Hosted
at_first n f [] = []
at_first n f (h ∷ more) = if h.room.number == n then f h ∷ more else h ∷ at_first n f more

first_set : (n k i : ℕ) (f : Hosted → Hosted) (d : Hosted) (hs : List Hosted) → position_from (is_room n) k hs ≡ Some i
    → (k ≤ i) × (i - k < length hs) × (set hs (i - k) (f (get_or hs (i - k) d)) ≡ at_first n f hs)
first_set n k i f d [] found = cc
first_set n k i f d (h ∷ hs) found = by (is_room n h) found (first_set n (k + 1) i f d hs)
  where
    by : (b : Bool) → cond b (Some k) (position_from (is_room n) (k + 1) hs) ≡ Some i
        → (position_from (is_room n) (k + 1) hs ≡ Some i
        → (k + 1 ≤ i) × (i - (k + 1) < length hs) × (set hs (i - (k + 1)) (f (get_or hs (i - (k + 1)) d)) ≡ at_first n f hs))
        → (k ≤ i) × (i - k < suc (length hs)) × (set (h ∷ hs) (i - k) (f (get_or (h ∷ hs) (i - k) d)) ≡ cond b (f h ∷ hs) (h ∷ at_first n f hs))
    by true found after =
        let same : k ≡ i = cc in
        let none : i - k ≡ 0 = omega (arith, same) in
        (omega (arith, same), omega (arith, none), ap (λ (j : ℕ). set (h ∷ hs) j (f (get_or (h ∷ hs) j d))) none)
    by false found after =
        let rest = after found in
        let one : i - k ≡ suc (i - (k + 1)) = omega (arith, rest.0) in
        (omega (arith, rest.0), omega (arith, one, rest.1), ap (λ (j : ℕ). set (h ∷ hs) j (f (get_or (h ∷ hs) j d))) one ∙ ap (λ ds. h ∷ ds) rest.2)

found_at : (n i : ℕ) (f : Hosted → Hosted) (d : Hosted) (hs : List Hosted) → position (is_room n) hs ≡ Some i
    → (0 ≤ i) × (i - 0 < length hs) × (set hs (i - 0) (f (get_or hs (i - 0) d)) ≡ at_first n f hs)
found_at n i f d hs found = first_set n 0 i f d hs (sym (position_from-zero (is_room n) hs) ∙ found)

set_at : (n i : ℕ) (f : Hosted → Hosted) (x : Hosted) (hs : List Hosted) → position (is_room n) hs ≡ Some i → x ≡ get_or hs i x
    → set hs i (f x) ≡ at_first n f hs
set_at n i f x hs found there =
    let whole : i ≡ i - 0 = omega arith in
    ap (λ (y : Hosted). set hs i (f y)) there ∙ ap (λ (j : ℕ). set hs j (f (get_or hs j x))) whole ∙ (found_at n i f x hs found).2

changed_is : (n : ℕ) (change : Room → Room) (hs : List Hosted) → at_first n (λ h. record h { room = change h.room }) hs ≡ changed_in n change hs
changed_is n change [] = refl
changed_is n change (h ∷ hs) = ap (λ (rest : List Hosted). if h.room.number == n then record h { room = change h.room } ∷ hs else h ∷ rest)
    (changed_is n change hs)

counted_is : (n : ℕ) (hs : List Hosted) → at_first n (λ h. record h { items = h.items + 1 }) hs ≡ counted_in n hs
counted_is n [] = refl
counted_is n (h ∷ hs) = ap (λ (rest : List Hosted). if h.room.number == n then record h { items = h.items + 1 } ∷ hs else h ∷ rest) (counted_is n hs)

pub changed_at : (n i : ℕ) (change : Room → Room) (x : Hosted) (hs : List Hosted) → position (is_room n) hs ≡ Some i → x ≡ get_or hs i x
    → set hs i (record x { room = change x.room }) ≡ changed_in n change hs
changed_at n i change x hs found there = set_at n i (λ h. record h { room = change h.room }) x hs found there ∙ changed_is n change hs

pub counted_at : (n i : ℕ) (x : Hosted) (hs : List Hosted) → position (is_room n) hs ≡ Some i → x ≡ get_or hs i x
    → set hs i (record x { items = x.items + 1 }) ≡ counted_in n hs
counted_at n i x hs found there = set_at n i (λ h. record h { items = h.items + 1 }) x hs found there ∙ counted_is n hs

missing : (n k : ℕ) (f : Hosted → Hosted) (hs : List Hosted) → position_from (is_room n) k hs ≡ None → hs ≡ at_first n f hs
missing n k f [] none = refl
missing n k f (h ∷ hs) none = by (is_room n h) none (missing n (k + 1) f hs)
  where
    by : (b : Bool) → cond b (Some k) (position_from (is_room n) (k + 1) hs) ≡ None → (position_from (is_room n) (k + 1) hs ≡ None → hs ≡ at_first n f hs)
        → h ∷ hs ≡ cond b (f h ∷ hs) (h ∷ at_first n f hs)
    by true none after = cc
    by false none after = ap (λ ds. h ∷ ds) (after none)

pub changed_none : (n : ℕ) (change : Room → Room) (hs : List Hosted) → position (is_room n) hs ≡ None → hs ≡ changed_in n change hs
changed_none n change hs none =
    missing n 0 (λ h. record h { room = change h.room }) hs (sym (position_from-zero (is_room n) hs) ∙ none) ∙ changed_is n change hs

pub counted_none : (n : ℕ) (hs : List Hosted) → position (is_room n) hs ≡ None → hs ≡ counted_in n hs
counted_none n hs none =
    missing n 0 (λ h. record h { items = h.items + 1 }) hs (sym (position_from-zero (is_room n) hs) ∙ none) ∙ counted_is n hs

-- no room has broadcast more than the one that has broadcast most

le_max : (a b : ℕ) → (a ≤ max a b) × (b ≤ max a b)
le_max a b = (omega arith, omega arith)

most_at : (i : ℕ) (d : Hosted) (hs : List Hosted) → i < length hs → (get_or hs i d).items ≤ most_items hs
most_at i d [] within = absurd (omega arith)
most_at zero d (h ∷ hs) within = (le_max h.items (most_items hs)).0
most_at (suc i) d (h ∷ hs) within =
    let rest = most_at i d hs (omega arith) in
    let most = (le_max h.items (most_items hs)).1 in
    omega (arith, rest, most)

pub items_at : (n i : ℕ) (x : Hosted) (hs : List Hosted) → position (is_room n) hs ≡ Some i → x ≡ get_or hs i x → x.items ≤ most_items hs
items_at n i x hs found there =
    let within = (found_at n i (λ h. h) x hs found).1 in
    let most = most_at i x hs (omega (arith, within)) in
    let same : x.items ≡ (get_or hs i x).items = ap (λ (h : Hosted). h.items) there in
    omega (arith, most, same)
