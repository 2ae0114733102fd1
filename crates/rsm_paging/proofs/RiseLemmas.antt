-- Rows whose ids rise: those before one, those after an id, and those below one.
use Rattle.std.proofs.Common.{◌≡◌, ℕ, zero, suc, ◌<◌, ◌≤◌, nat_lt, nat_le, List, [], ◌∷◌, take, drop, map, length, Bool, true, false, refl, ap, sym, subst}
use Rattle.std.proofs.Common.{arith, if◌then◌else◌}
use Rattle.std.proofs.lemmas.Grind.{common_steps}
use Rattle.std.specs.List.{AllByRecursion, filter}
use Rattle.rsm_paging.specs.Matches.{below, match_of, up_to}
use Rattle.rsm_paging.specs.Pages.{Rises, is_past}
use Rattle.rsm_paging.specs.declared.ask.Row.{Row}

pub lt-true : (a b : ℕ) → a < b → nat_lt a b ≡ true
lt-true a b is = grind (arith, common_steps)

pub lt-false : (a b : ℕ) → b ≤ a → nat_lt a b ≡ false
lt-false a b is = grind (arith, common_steps)

pub le-false : (a b : ℕ) → b < a → nat_le a b ≡ false
le-false a b is = grind (arith, common_steps)

pub le-true : (a b : ℕ) → a ≤ b → nat_le a b ≡ true
le-true a b is = grind (arith, common_steps)

pub le-of : (a b : ℕ) → nat_le a b ≡ true → a ≤ b
le-of a b is = grind (arith, common_steps)

pub lt-of : (a b : ℕ) → nat_le a b ≡ false → b < a
lt-of a b is = grind (arith, common_steps)

pub choose-le : {P : Type 0} (a b : ℕ) → (a ≤ b → P) → (b < a → P) → P
choose-le {P = P} a b up down = by (nat_le a b) refl where
  by : (c : Bool) → nat_le a b ≡ c → P
  by true is = up (le-of a b is)
  by false is = down (lt-of a b is)

-- rows that are all past an id

all-past : (a : ℕ) (rows : List Row) → AllByRecursion (λ l. a < l.id) rows → filter (λ o. nat_lt a o.id) rows ≡ rows
all-past a [] all = refl
all-past a (r ∷ rows) all = rw (lt-true a r.id all.0) (ap (λ (l : List Row). r ∷ l) (all-past a rows all.1))

none-up-to : (a : ℕ) (rows : List Row) → AllByRecursion (λ l. a < l.id) rows → up_to a (map match_of rows) ≡ 0
none-up-to a [] all = refl
none-up-to a (r ∷ rows) all = rw (le-false r.id a all.0) (none-up-to a rows all.1)

pub further : (a b : ℕ) (rows : List Row) → a < b → AllByRecursion (λ l. b < l.id) rows → AllByRecursion (λ l. a < l.id) rows
further a b [] less all = tt
further a b (r ∷ rows) less all = (let is = all.0 in omega (arith, less, is), further a b rows less all.1)

pub at-least : (b x : ℕ) (rows : List Row) → b ≤ x → AllByRecursion (λ l. x < l.id) rows → AllByRecursion (λ l. b ≤ l.id) rows
at-least b x [] less all = tt
at-least b x (r ∷ rows) less all = (let is = all.0 in omega (arith, less, is), at-least b x rows less all.1)

none-of : (b : ℕ) (rows : List Row) → AllByRecursion (λ l. b ≤ l.id) rows → filter (λ o. nat_lt o.id b) rows ≡ []
none-of b [] all = refl
none-of b (r ∷ rows) all = rw (lt-false r.id b all.0) (none-of b rows all.1)

none-matched : (b : ℕ) (rows : List Row) → AllByRecursion (λ l. b ≤ l.id) rows → below b (map match_of rows) ≡ 0
none-matched b [] all = refl
none-matched b (r ∷ rows) all = rw (lt-false r.id b all.0) (none-matched b rows all.1)

-- what a test leaves of them

pub kept-all : (P : Row → Type 0) (p : Row → Bool) (rows : List Row) → AllByRecursion P rows → AllByRecursion P (filter p rows)
kept-all P p [] all = tt
kept-all P p (r ∷ rows) all = by (p r) (kept-all P p rows all.1) where
  by : (b : Bool) → AllByRecursion P (filter p rows) → AllByRecursion P (if b then r ∷ filter p rows else filter p rows)
  by true rest = (all.0, rest)
  by false rest = rest

pub rises-filter : (p : Row → Bool) (rows : List Row) → Rises rows → Rises (filter p rows)
rises-filter p [] rises = tt
rises-filter p (r ∷ rows) rises = by (p r) (rises-filter p rows rises.1) where
  by : (b : Bool) → Rises (filter p rows) → Rises (if b then r ∷ filter p rows else filter p rows)
  by true rest = (kept-all (λ l. r.id < l.id) p rows rises.0, rest)
  by false rest = rest

-- how many stand before one of them

later-in : (x : ℕ) (rows : List Row) → AllByRecursion (λ l. x < l.id) rows → (k : ℕ) (r : Row) (more : List Row) → drop k rows ≡ r ∷ more → x < r.id
later-in x [] all zero r more is = absurd (let z : [] ≡ r ∷ more = is in cc)
later-in x [] all (suc k) r more is = absurd (let z : [] ≡ r ∷ more = is in cc)
later-in x (y ∷ rows) all zero r more is = let same : y ≡ r = cc in subst (λ (o : Row). x < o.id) same all.0
later-in x (y ∷ rows) all (suc k) r more is = later-in x rows all.1 k r more is

pub before-count : (rows : List Row) → Rises rows → (k : ℕ) (r : Row) (more : List Row) → drop k rows ≡ r ∷ more
    → length (filter (λ o. is_past o r) rows) ≡ k
before-count [] rises zero r more is = absurd (let z : [] ≡ r ∷ more = is in cc)
before-count [] rises (suc k) r more is = absurd (let z : [] ≡ r ∷ more = is in cc)
before-count (x ∷ rows) rises zero r more is =
    let same : x ≡ r = cc in
    subst (λ (o : Row). length (filter (λ l. is_past l o) (x ∷ rows)) ≡ 0) same
    (rw (lt-false x.id x.id (omega arith)) (ap length (none-of x.id rows (at-least x.id x.id rows (omega arith) rises.0))))
before-count (x ∷ rows) rises (suc k) r more is =
    rw (lt-true x.id r.id (later-in x.id rows rises.0 k r more is)) (ap suc (before-count rows rises.1 k r more is))

-- those after an id, and those below one

pub drop-up-to : (a : ℕ) (rows : List Row) → Rises rows → drop (up_to a (map match_of rows)) rows ≡ filter (λ o. nat_lt a o.id) rows
drop-up-to a [] rises = refl
drop-up-to a (r ∷ rows) rises =
    choose-le r.id a
    (λ (is : r.id ≤ a). rw (le-true r.id a is) (rw (lt-false a r.id is) (drop-up-to a rows rises.1)))
    (λ (is : a < r.id). rw (le-false r.id a is) (rw (lt-true a r.id is) (
    rw (none-up-to a rows (further a r.id rows is rises.0)) (ap (λ (l : List Row). r ∷ l) (sym (all-past a rows (further a r.id rows is rises.0))))
    )))

pub take-below : (b : ℕ) (rows : List Row) → Rises rows → take (below b (map match_of rows)) rows ≡ filter (λ o. nat_lt o.id b) rows
take-below b [] rises = refl
take-below b (r ∷ rows) rises =
    choose-le b r.id
    (λ (is : b ≤ r.id). rw (lt-false r.id b is) (
    rw (none-matched b rows (at-least b r.id rows is rises.0)) (sym (none-of b rows (at-least b r.id rows is rises.0)))
    ))
    (λ (is : r.id < b). rw (lt-true r.id b is) (ap (λ (l : List Row). r ∷ l) (take-below b rows rises.1)))
