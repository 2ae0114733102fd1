-- Pages that follow each other show each wanted row once, and in order.
use Rattle.std.proofs.Common.{◌≡◌, ℕ, zero, suc, ◌+◌, ◌-◌, ◌<◌, ◌≤◌, ◌==◌, nat_lt, List, [], ◌∷◌, ◌++◌, take, drop, map, length, Bool, true, false, refl, ap, sym}
use Rattle.std.proofs.Common.{◌∙◌, subst, arith, if◌then◌else◌}
use Rattle.std.specs.Prelude.{Option, Some, None}
use Rattle.std.specs.List.{AllByRecursion, filter}
use Rattle.std.proofs.lemmas.Bool.{eqb-true}
use Rattle.std.proofs.lemmas.Grind.{common_steps}
use Rattle.std.proofs.lemmas.List.{take-append-drop}
use Rattle.rsm_paging.specs.Pages.{Rises, first_page, fits, id_of, is_past, matching, most_rows, those_after}
use Rattle.rsm_paging.specs.Walks.{IsAmong, IsWalk, Step, come_last, kept_of, shown_by, wanted_of}
use Rattle.rsm_paging.specs.declared.ask.Filter.{Filter}
use Rattle.rsm_paging.specs.declared.ask.Row.{Row}
use Rattle.rsm_paging.proofs.PageLemmas.{shown, shown-rows}
use Rattle.rsm_paging.proofs.RiseLemmas.{rises-filter}

append-assoc : {A : Type 0} (xs ys zs : List A) → (xs ++ ys) ++ zs ≡ xs ++ (ys ++ zs)
append-assoc [] ys zs = refl
append-assoc (x ∷ xs) ys zs = ap (λ l. x ∷ l) (append-assoc xs ys zs)

map-append : {A B : Type 0} (f : A → B) (xs ys : List A) → map f (xs ++ ys) ≡ map f xs ++ map f ys
map-append f [] ys = refl
map-append f (x ∷ xs) ys = ap (λ l. f x ∷ l) (map-append f xs ys)

filter-append : (p : Row → Bool) (xs ys : List Row) → filter p (xs ++ ys) ≡ filter p xs ++ filter p ys
filter-append p [] ys = refl
filter-append p (x ∷ xs) ys = by (p x) (filter-append p xs ys) where
  by : (b : Bool) → filter p (xs ++ ys) ≡ filter p xs ++ filter p ys
      → (if b then x ∷ filter p (xs ++ ys) else filter p (xs ++ ys)) ≡ (if b then x ∷ filter p xs else filter p xs) ++ filter p ys
  by true rest = ap (λ (l : List Row). x ∷ l) rest
  by false rest = rest

-- the rows past one among rising ones

lt-true : (a b : ℕ) → a < b → nat_lt a b ≡ true
lt-true a b is = grind (arith, common_steps)

lt-false : (a b : ℕ) → b ≤ a → nat_lt a b ≡ false
lt-false a b is = grind (arith, common_steps)

past-all : (row : Row) (rows : List Row) → AllByRecursion (λ l. row.id < l.id) rows → filter (is_past row) rows ≡ rows
past-all row [] all = refl
past-all row (r ∷ rows) all = rw (lt-true row.id r.id all.0) (ap (λ (l : List Row). r ∷ l) (past-all row rows all.1))

all-of : (P : Row → Type 0) (xs ys : List Row) → AllByRecursion P (xs ++ ys) → AllByRecursion P ys
all-of P [] ys all = all
all-of P (x ∷ xs) ys all = all-of P xs ys all.1

last-in : (P : Row → Type 0) (xs : List Row) (row : Row) (ys : List Row) → AllByRecursion P (xs ++ row ∷ ys) → P row
last-in P [] row ys all = all.0
last-in P (x ∷ xs) row ys all = last-in P xs row ys all.1

-- of rising rows, those past one are those after it
past-of : (front : List Row) (row : Row) (later : List Row) → Rises (front ++ row ∷ later) → filter (is_past row) (front ++ row ∷ later) ≡ later
past-of [] row later rises = rw (lt-false row.id row.id (omega arith)) (past-all row later rises.0)
past-of (x ∷ front) row later rises =
    let less = last-in (λ l. x.id < l.id) front row later rises.0 in
    rw (lt-false row.id x.id (omega (arith, less))) (past-of front row later rises.1)

none-more : (a b n : ℕ) → a ≤ b → nat_lt a n ≡ false → nat_lt b n ≡ false
none-more a b n less is = grind (arith, common_steps)

heads : (x row : Row) (xs later : List Row) → x ∷ xs ≡ row ∷ later → x ≡ row
heads x row xs later is = let z : x ≡ row = cc in z

rises-drop : (d : ℕ) (rows : List Row) → Rises rows → Rises (drop d rows)
rises-drop zero rows rises = rises
rises-drop (suc d) [] rises = rises
rises-drop (suc d) (r ∷ rows) rises = rises-drop d rows rises.1

all-take : (P : Row → Type 0) (n : ℕ) (rows : List Row) → AllByRecursion P rows → AllByRecursion P (take n rows)
all-take P zero rows all = tt
all-take P (suc n) [] all = tt
all-take P (suc n) (r ∷ rows) all = (all.0, all-take P n rows all.1)

rises-take : (n : ℕ) (rows : List Row) → Rises rows → Rises (take n rows)
rises-take zero rows rises = tt
rises-take (suc n) [] rises = tt
rises-take (suc n) (r ∷ rows) rises = (all-take (λ l. r.id < l.id) n rows rises.0, rises-take n rows rises.1)

-- a test that says more, after one that says less
twice : (a b : ℕ) → a ≤ b → (rows : List Row) → filter (λ o. nat_lt b o.id) (filter (λ o. nat_lt a o.id) rows) ≡ filter (λ o. nat_lt b o.id) rows
twice a b less [] = refl
twice a b less (r ∷ rows) = by (nat_lt a r.id) refl (twice a b less rows) where
  by : (c : Bool) → nat_lt a r.id ≡ c → filter (λ o. nat_lt b o.id) (filter (λ o. nat_lt a o.id) rows) ≡ filter (λ o. nat_lt b o.id) rows
      → filter (λ o. nat_lt b o.id) (if c then r ∷ filter (λ o. nat_lt a o.id) rows else filter (λ o. nat_lt a o.id) rows)
      ≡ (if nat_lt b r.id then r ∷ filter (λ o. nat_lt b o.id) rows else filter (λ o. nat_lt b o.id) rows)
  by true is rest = ap (λ (l : List Row). if nat_lt b r.id then r ∷ l else l) rest
  by false is rest = rw (none-more a b r.id less is) rest

-- the order of two tests doesn't matter
swapped : (p q : Row → Bool) (rows : List Row) → filter p (filter q rows) ≡ filter q (filter p rows)
swapped p q [] = refl
swapped p q (r ∷ rows) = by (p r) refl (q r) refl (swapped p q rows) where
  by : (b : Bool) → p r ≡ b → (c : Bool) → q r ≡ c → filter p (filter q rows) ≡ filter q (filter p rows)
      → filter p (if c then r ∷ filter q rows else filter q rows) ≡ filter q (if b then r ∷ filter p rows else filter p rows)
  by true is true also rest = rw is (rw also (ap (λ (l : List Row). r ∷ l) rest))
  by true is false also rest = rw also rest
  by false is true also rest = rw is rest
  by false is false also rest = rest

-- rows that stand among others

split-at : (row : Row) (rows : List Row) → IsAmong row rows → (front : List Row) × (later : List Row) × (rows ≡ front ++ row ∷ later)
split-at row rows (before, later, is) = (take before rows, later, sym (take-append-drop before rows) ∙ ap (λ (l : List Row). take before rows ++ l) is)

among-of : (front : List Row) (row : Row) (later : List Row) → IsAmong row (front ++ row ∷ later)
among-of [] row later = (zero, later, refl)
among-of (x ∷ front) row later = let m = among-of front row later in (suc m.0, m.1, m.2)

among-same : (row : Row) (xs ys : List Row) → xs ≡ ys → IsAmong row xs → IsAmong row ys
among-same row xs ys same is = subst (λ (l : List Row). IsAmong row l) same is

among-more : (row : Row) (xs ys : List Row) → IsAmong row xs → IsAmong row (xs ++ ys)
among-more row xs ys is =
    let m = split-at row xs is in
    among-same row (m.0 ++ row ∷ (m.1 ++ ys)) (xs ++ ys)
    (sym (append-assoc m.0 (row ∷ m.1) ys) ∙ ap (λ (l : List Row). l ++ ys) (sym m.2)) (among-of m.0 row (m.1 ++ ys))

among-later : (row x : Row) (xs : List Row) → IsAmong row xs → IsAmong row (x ∷ xs)
among-later row x xs (before, later, is) = (suc before, later, is)

among-filter : (row : Row) (p : Row → Bool) (xs : List Row) → IsAmong row (filter p xs) → IsAmong row xs
among-filter row p [] is = is
among-filter row p (x ∷ xs) is = by (p x) (among-filter row p xs) is where
  by : (b : Bool) → (IsAmong row (filter p xs) → IsAmong row xs) → IsAmong row (if b then x ∷ filter p xs else filter p xs) → IsAmong row (x ∷ xs)
  by true down (zero, later, at) = (zero, xs, ap (λ (r : Row). r ∷ xs) (heads x row (filter p xs) later at))
  by true down (suc before, later, at) = among-later row x xs (down (before, later, at))
  by false down at = among-later row x xs (down at)

-- what is past a row among the last of them
past-dropped : (f : Filter) (row : Row) (d : ℕ) (rows : List Row) → Rises rows → IsAmong row (drop d rows)
    → filter (is_past row) (matching f (drop d rows)) ≡ filter (is_past row) (matching f rows)
past-dropped f row d rows rises is =
    let m = split-at row (drop d rows) is in
    let whole : rows ≡ (take d rows ++ m.0) ++ row ∷ m.1 =
    sym (take-append-drop d rows) ∙ ap (λ (l : List Row). take d rows ++ l) m.2 ∙ sym (append-assoc (take d rows) m.0 (row ∷ m.1)) in
    let here : filter (is_past row) (drop d rows) ≡ m.1 =
    ap (filter (is_past row)) m.2 ∙ past-of m.0 row m.1 (subst (λ (l : List Row). Rises l) m.2 (rises-drop d rows rises)) in
    let there : filter (is_past row) rows ≡ m.1 =
    ap (filter (is_past row)) whole ∙ past-of (take d rows ++ m.0) row m.1 (subst (λ (l : List Row). Rises l) whole rises) in
    swapped (is_past row) (fits f) (drop d rows) ∙ ap (filter (fits f)) (here ∙ sym there) ∙ sym (swapped (is_past row) (fits f) rows)

take-none : {A : Type 0} (k : ℕ) → take {A = A} k [] ≡ []
take-none zero = refl
take-none (suc k) = refl

-- what is kept later is what was kept and what came, but for what went

take-add : {A : Type 0} (a b : ℕ) (xs : List A) → take (a + b) xs ≡ take a xs ++ take b (drop a xs)
take-add zero b xs = let same : zero + b ≡ b = omega arith in ap (λ (k : ℕ). take k xs) same
take-add (suc a) b [] = let same : suc a + b ≡ suc (a + b) = omega arith in ap (λ (k : ℕ). take k []) same ∙ sym (take-none b)
take-add (suc a) b (x ∷ xs) =
    let same : suc a + b ≡ suc (a + b) = omega arith in ap (λ (k : ℕ). take k (x ∷ xs)) same ∙ ap (λ l. x ∷ l) (take-add a b xs)

drop-both : {A : Type 0} (n : ℕ) (xs ys : List A) → drop n (xs ++ ys) ≡ drop n xs ++ drop (n - length xs) ys
drop-both zero xs ys = let same : zero - length xs ≡ zero = omega arith in ap (λ (k : ℕ). xs ++ drop k ys) (sym same)
drop-both (suc n) [] ys = let same : suc n - zero ≡ suc n = omega arith in ap (λ (k : ℕ). drop k ys) (sym same)
drop-both (suc n) (x ∷ xs) ys =
    let same : suc n - suc (length xs) ≡ n - length xs = omega arith in
    drop-both n xs ys ∙ ap (λ (k : ℕ). drop n xs ++ drop k ys) (sym same)

kept-more : (all : List Row) (gone come last : ℕ) → come ≤ last → (new : List Row) × (kept_of all gone last ≡ kept_of all gone come ++ new)
kept-more all gone come last less =
    let more : last ≡ come + (last - come) = omega (arith, less) in (
      drop (gone - length (take come all)) (take (last - come) (drop come all)),
      ap (λ (k : ℕ). drop gone (take k all)) more ∙ ap (drop gone) (take-add come (last - come) all)
          ∙ drop-both gone (take come all) (take (last - come) (drop come all)),
    )

after-append : (after : Option Row) (xs ys : List Row) → those_after after (xs ++ ys) ≡ those_after after xs ++ those_after after ys
after-append None xs ys = refl
after-append (Some row) xs ys = filter-append (is_past row) xs ys

-- the whole list, where as many are taken

take-whole : {A : Type 0} (k : ℕ) (xs : List A) → length (take k xs) ≡ length xs → take k xs ≡ xs
take-whole zero [] same = refl
take-whole zero (x ∷ xs) same = absurd (omega (arith, same))
take-whole (suc k) [] same = refl
take-whole (suc k) (x ∷ xs) same = ap (λ l. x ∷ l) (take-whole k xs (omega (arith, same)))

whole-page : (max : ℕ) (wanted : List Row) (page : List Row) → page ≡ first_page max wanted → (length page == length wanted) ≡ true → page ≡ wanted
whole-page max wanted page is same =
    let k : ℕ = shown (most_rows max) wanted in
    let front : page ≡ take k wanted = is ∙ shown-rows (most_rows max) wanted in
    front ∙ take-whole k wanted (ap length (sym front) ∙ eqb-true (length page) (length wanted) same)

come-le : (all : List Row) (f : Filter) (after : Option Row) (s : Step) (more : List Step) → IsWalk all f after s more → s.come ≤ come_last s more
come-le all f after s [] is = omega arith
come-le all f after s (next ∷ more) is = let less = is.1 in omega (arith, less, come-le all f (Some is.3) next more is.5)

-- Each page shows the first of those that are wanted then, and the later pages those past it.

next-kept : (all : List Row) (f : Filter) (row : Row) (s : Step) (more : List Step) → IsWalk all f (Some row) s more
    → IsAmong row (kept_of all s.gone s.come)
next-kept all f row s [] is = is.0.kept
next-kept all f row s (next ∷ more) is = is.0.kept

lt-of : (a b : ℕ) → nat_lt a b ≡ true → a < b
lt-of a b is = grind (arith, common_steps)

all-past : (a : Row) (rows : List Row) → AllByRecursion (λ o. a.id < o.id) (filter (is_past a) rows)
all-past a [] = tt
all-past a (r ∷ rows) = by (nat_lt a.id r.id) refl (all-past a rows) where
  by : (b : Bool) → nat_lt a.id r.id ≡ b → AllByRecursion (λ o. a.id < o.id) (filter (is_past a) rows)
      → AllByRecursion (λ o. a.id < o.id) (if b then r ∷ filter (is_past a) rows else filter (is_past a) rows)
  by true is rest = (lt-of a.id r.id is, rest)
  by false is rest = rest

-- a row that is wanted is past the one that is asked after
after-less : (after : Option Row) (rows front : List Row) (row : Row) (later : List Row) → those_after after rows ≡ front ++ row ∷ later
    → filter (is_past row) (those_after after rows) ≡ filter (is_past row) rows
after-less None rows front row later is = refl
after-less (Some a) rows front row later is =
    let less = last-in (λ l. a.id < l.id) front row later
    (subst (λ (l : List Row). AllByRecursion (λ o. a.id < o.id) l) is (all-past a rows)) in
    twice a.id row.id (omega (arith, less)) rows

among-after : (after : Option Row) (row : Row) (rows : List Row) → IsAmong row (those_after after rows) → IsAmong row rows
among-after None row rows is = is
among-after (Some a) row rows is = among-filter row (is_past a) rows is

rises-after : (after : Option Row) (rows : List Row) → Rises rows → Rises (those_after after rows)
rises-after None rows rises = rises
rises-after (Some a) rows rises = rises-filter (is_past a) rows rises

-- one page, and those past its last row
step-shows : (all : List Row) → Rises all → (f : Filter) (after : Option Row) (gone gone' come come' last max : ℕ) → come ≤ last → come' ≤ last
    → (front : List Row) (row : Row) → first_page max (wanted_of all f after gone come) ≡ front ++ row ∷ [] → IsAmong row (kept_of all gone' come')
    → first_page max (wanted_of all f after gone come) ++ wanted_of all f (Some row) gone' last ≡ wanted_of all f after gone last
step-shows all rises f after gone gone' come come' last max less less' front row is kept =
    let wanted : List Row = wanted_of all f after gone come in
    let page : List Row = first_page max wanted in
    let k : ℕ = shown (most_rows max) wanted in
    let z : List Row = take last all in
    let new = kept-more all gone come last less in
    let new' = kept-more all gone' come' last less' in
    let rest : List Row = drop k wanted ++ those_after after (matching f new.0) in
    let split : wanted ≡ page ++ drop k wanted =
    sym (take-append-drop k wanted) ∙ ap (λ (l : List Row). l ++ drop k wanted) (sym (shown-rows (most_rows max) wanted)) in
    let whole : wanted_of all f after gone last ≡ wanted ++ those_after after (matching f new.0) =
    ap (λ (l : List Row). those_after after (matching f l)) new.1
    ∙ ap (those_after after) (filter-append (fits f) (kept_of all gone come) new.0)
    ∙ after-append after (matching f (kept_of all gone come)) (matching f new.0) in
    let parts : wanted_of all f after gone last ≡ page ++ rest =
    whole ∙ ap (λ (l : List Row). l ++ those_after after (matching f new.0)) split
    ∙ append-assoc page (drop k wanted) (those_after after (matching f new.0)) in
    let at : wanted_of all f after gone last ≡ front ++ row ∷ rest =
    parts ∙ ap (λ (l : List Row). l ++ rest) is ∙ append-assoc front (row ∷ []) rest in
    let there : IsAmong row (wanted_of all f after gone last) =
    among-same row (front ++ row ∷ rest) (wanted_of all f after gone last) (sym at) (among-of front row rest) in
    let rising : Rises z = rises-take last all rises in
    let here : IsAmong row (drop gone z) = among-filter row (fits f) (drop gone z) (among-after after row (matching f (drop gone z)) there) in
    let here' : IsAmong row (drop gone' z) =
    among-same row (kept_of all gone' come' ++ new'.0) (drop gone' z) (sym new'.1) (among-more row (kept_of all gone' come') new'.0 kept) in
    let ups : Rises (wanted_of all f after gone last) =
    rises-after after (matching f (drop gone z)) (rises-filter (fits f) (drop gone z) (rises-drop gone z rising)) in
    let past : filter (is_past row) (wanted_of all f after gone last) ≡ rest =
    ap (filter (is_past row)) at ∙ past-of front row rest (subst (λ (l : List Row). Rises l) at ups) in
    let next : wanted_of all f (Some row) gone' last ≡ rest =
    past-dropped f row gone' z rising here' ∙ sym (past-dropped f row gone z rising here)
    ∙ sym (after-less after (matching f (drop gone z)) front row rest at) ∙ past in
    ap (λ (l : List Row). page ++ l) next ∙ sym parts

pub walk-shows : (all : List Row) → Rises all → (f : Filter) (after : Option Row) (s : Step) (more : List Step) → IsWalk all f after s more
    → shown_by s more ≡ map id_of (wanted_of all f after s.gone (come_last s more))
walk-shows all rises f after s [] is =
    let wanted : List Row = wanted_of all f after s.gone s.come in
    is.0.page.rows ∙ ap (map id_of) (whole-page s.max wanted (first_page s.max wanted) refl (sym is.0.page.complete ∙ is.1))
walk-shows all rises f after s (next ∷ more) is =
    let last : ℕ = come_last next more in
    let less' = come-le all f (Some is.3) next more is.5 in
    let less = is.1 in
    let page : List Row = first_page s.max (wanted_of all f after s.gone s.come) in
    ap (λ (l : List ℕ). l ++ shown_by next more) is.0.page.rows
    ∙ ap (λ (l : List ℕ). map id_of page ++ l) (walk-shows all rises f (Some is.3) next more is.5)
    ∙ sym (map-append id_of page (wanted_of all f (Some is.3) next.gone last))
    ∙ ap (map id_of) (step-shows all rises f after s.gone next.gone s.come next.come last s.max (omega (arith, less, less')) less' is.2 is.3 is.4
    (next-kept all f is.3 next more is.5))
