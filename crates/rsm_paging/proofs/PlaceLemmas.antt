-- Rows by their places, and how many of them come before a bound.
use Rattle.std.proofs.Common.{◌≡◌, ℕ, zero, suc, ◌+◌, ◌-◌, ◌<◌, ◌≤◌, ◌==◌, List, [], ◌∷◌, ◌++◌, take, drop, length, slice_get, Bool, true, false, refl}
use Rattle.std.proofs.Common.{ap, sym, ◌∙◌, subst, arith, if◌then◌else◌}
use Rattle.std.specs.Prelude.{Option, Some, None}
use Rattle.std.specs.Option.{option_to_list}
use Rattle.std.specs.List.{AllByRecursion, filter, find}
use Rattle.std.proofs.lemmas.Grind.{common_steps}
use Rattle.rsm_paging.specs.Pages.{Follow, row_numbered}
use Rattle.rsm_paging.specs.Places.{IsParted, StandAt, before_at, comes_before, row_at, rows_at}
use Rattle.rsm_paging.specs.declared.ask.Row.{Row}
use Rattle.rsm_paging.specs.declared.placing.Bound.{Bound}

-- the row of an id

pub eqb-same : (a b : ℕ) → a ≡ b → (a == b) ≡ true
eqb-same a b is = grind (arith, common_steps)

pub eqb-apart : (a b : ℕ) → a < b → (a == b) ≡ false
eqb-apart a b is = grind (arith, common_steps)

eqb-past : (a b : ℕ) → b < a → (a == b) ≡ false
eqb-past a b is = grind (arith, common_steps)

none-before : (n : ℕ) (rows : List Row) → Follow n rows → (id : ℕ) → id < n → find (λ row. row.id == id) rows ≡ None
none-before n [] all id less = refl
none-before n (r ∷ rows) all id less =
    let at = all.0 in rw (eqb-past r.id id (omega (arith, at, less))) (none-before (n + 1) rows all.1 id (omega (arith, less)))

found-at : (n : ℕ) (rows : List Row) → Follow n rows → (k : ℕ) → find (λ row. row.id == n + k) rows ≡ slice_get rows k
found-at n [] all k = refl
found-at n (r ∷ rows) all zero = let at = all.0 in rw (eqb-same r.id (n + zero) (omega (arith, at))) refl
found-at n (r ∷ rows) all (suc k) =
    let at = all.0 in
    let next : n + suc k ≡ n + 1 + k = omega arith in
    rw (eqb-apart r.id (n + suc k) (omega (arith, at))) (ap (λ (i : ℕ). find (λ row. row.id == i) rows) next ∙ found-at (n + 1) rows all.1 k)

pub row-of : (rows : List Row) → ((n : ℕ) × Follow n rows) → (first : Row) → Some first ≡ slice_get rows 0 → (id : ℕ) → first.id ≤ id
    → slice_get rows (id - first.id) ≡ row_numbered (Some id) rows
row-of [] all first is id less = refl
row-of (r ∷ rows) all first is id less =
    let same : first ≡ r = cc in
    let at : first.id ≡ all.0 = ap (λ (o : Row). o.id) same ∙ all.1.0 in
    let whole : all.0 + (id - first.id) ≡ id = omega (arith, at, less) in
    sym (found-at all.0 (r ∷ rows) all.1 (id - first.id)) ∙ ap (λ (i : ℕ). find (λ row. row.id == i) (r ∷ rows)) whole

pub row-of-none : (rows : List Row) → ((n : ℕ) × Follow n rows) → (first : Row) → Some first ≡ slice_get rows 0 → (id : ℕ) → id < first.id
    → None ≡ row_numbered (Some id) rows
row-of-none [] all first is id less = refl
row-of-none (r ∷ rows) all first is id less =
    let same : first ≡ r = cc in
    let at : first.id ≡ all.0 = ap (λ (o : Row). o.id) same ∙ all.1.0 in
    sym (none-before all.0 (r ∷ rows) all.1 id (omega (arith, at, less)))

pub row-of-empty : (rows : List Row) (id : ℕ) → None ≡ slice_get rows 0 → None ≡ row_numbered (Some id) rows
row-of-empty [] id is = refl
row-of-empty (r ∷ rows) id is = absurd (let z : ◌≡◌ {A = Option Row} None (Some r) = is in cc)

-- places

pub place-of : (xs rows : List Row) (picked : Option (List ℕ)) (place k : ℕ) → StandAt xs rows picked place → k < length xs
    → row_at rows picked (place + k) ≡ slice_get xs k
place-of [] rows picked place k at less = absurd (omega (arith, less))
place-of (x ∷ xs) rows picked place zero at less = let here : place + zero ≡ place = omega arith in ap (row_at rows picked) here ∙ at.0
place-of (x ∷ xs) rows picked place (suc k) at less =
    let there : place + suc k ≡ place + 1 + k = omega arith in
    ap (row_at rows picked) there ∙ place-of xs rows picked (place + 1) k at.1 (omega (arith, less))

pub stand-drop : (n : ℕ) (xs rows : List Row) (picked : Option (List ℕ)) (place : ℕ) → StandAt xs rows picked place
    → StandAt (drop n xs) rows picked (place + n)
stand-drop zero xs rows picked place at = let here : place ≡ place + zero = omega arith in subst (StandAt xs rows picked) here at
stand-drop (suc n) [] rows picked place at = tt
stand-drop (suc n) (x ∷ xs) rows picked place at =
    let there : place + 1 + n ≡ place + suc n = omega arith in
    subst (StandAt (drop n xs) rows picked) there (stand-drop n xs rows picked (place + 1) at.1)

pub stand-take : (n : ℕ) (xs rows : List Row) (picked : Option (List ℕ)) (place : ℕ) → StandAt xs rows picked place
    → StandAt (take n xs) rows picked place
stand-take zero xs rows picked place at = tt
stand-take (suc n) [] rows picked place at = tt
stand-take (suc n) (x ∷ xs) rows picked place at = (at.0, stand-take n xs rows picked (place + 1) at.1)

-- how many come before

passes-at : (test : Row → Bool) (xs : List Row) → AllByRecursion (λ y. test y ≡ false) xs → (k : ℕ) (r : Row) → slice_get xs k ≡ Some r → test r ≡ false
passes-at test [] all k r is = absurd (let z : ◌≡◌ {A = Option Row} None (Some r) = is in cc)
passes-at test (x ∷ xs) all zero r is = let same : x ≡ r = cc in subst (λ (o : Row). test o ≡ false) same all.0
passes-at test (x ∷ xs) all (suc k) r is = passes-at test xs all.1 k r is

none-pass : (test : Row → Bool) (xs : List Row) → AllByRecursion (λ y. test y ≡ false) xs → filter test xs ≡ []
none-pass test [] all = refl
none-pass test (x ∷ xs) all = rw all.0 (none-pass test xs all.1)

count-true : (test : Row → Bool) (xs : List Row) → IsParted test xs → (k : ℕ) (r : Row) → slice_get xs k ≡ Some r → test r ≡ true
    → k < length (filter test xs)
count-true test [] parted k r is passes = absurd (let z : ◌≡◌ {A = Option Row} None (Some r) = is in cc)
count-true test (x ∷ xs) parted zero r is passes =
    let same : x ≡ r = cc in
    let here : test x ≡ true = ap test same ∙ passes in
    rw here (omega arith)
count-true test (x ∷ xs) parted (suc k) r is passes = by (test x) refl (count-true test xs parted.1 k r is passes) where
  by : (b : Bool) → test x ≡ b → k < length (filter test xs) → suc k < length (if b then x ∷ filter test xs else filter test xs)
  by true here rest = omega (arith, rest)
  by false here rest =
      absurd (let z : true ≡ false = sym passes ∙ passes-at test xs (parted.0 here) k r is in cc)

count-false : (test : Row → Bool) (xs : List Row) → IsParted test xs → (k : ℕ) (r : Row) → slice_get xs k ≡ Some r → test r ≡ false
    → length (filter test xs) ≤ k
count-false test [] parted k r is passes = absurd (let z : ◌≡◌ {A = Option Row} None (Some r) = is in cc)
count-false test (x ∷ xs) parted zero r is passes =
    let same : x ≡ r = cc in
    let here : test x ≡ false = ap test same ∙ passes in
    rw here (let l = ap length (none-pass test xs (parted.0 here)) in omega (arith, l))
count-false test (x ∷ xs) parted (suc k) r is passes = by (test x) refl (count-false test xs parted.1 k r is passes) where
  by : (b : Bool) → test x ≡ b → length (filter test xs) ≤ k → length (if b then x ∷ filter test xs else filter test xs) ≤ suc k
  by true here rest = omega (arith, rest)
  by false here rest = omega (arith, rest)

get-within : (xs : List Row) (k : ℕ) → k < length xs → (r : Row) × (slice_get xs k ≡ Some r)
get-within [] k less = absurd (omega (arith, less))
get-within (x ∷ xs) zero less = (x, refl)
get-within (x ∷ xs) (suc k) less = get-within xs k (omega (arith, less))

pub below-count : (bound : Bound) (xs rows : List Row) (picked : Option (List ℕ)) (place many k : ℕ) → StandAt xs rows picked place
    → length xs ≡ many → IsParted (comes_before bound) xs → k < many → before_at bound (row_at rows picked (place + k)) ≡ true
    → k < length (filter (comes_before bound) xs)
below-count bound xs rows picked place many k at wide parted less passes =
    let there = get-within xs k (omega (arith, less, wide)) in
    let is = ap (before_at bound) (place-of xs rows picked place k at (omega (arith, less, wide)) ∙ there.1) in
    count-true (comes_before bound) xs parted k there.0 there.1 (sym is ∙ passes)

pub above-count : (bound : Bound) (xs rows : List Row) (picked : Option (List ℕ)) (place many k : ℕ) → StandAt xs rows picked place
    → length xs ≡ many → IsParted (comes_before bound) xs → k < many → before_at bound (row_at rows picked (place + k)) ≡ false
    → length (filter (comes_before bound) xs) ≤ k
above-count bound xs rows picked place many k at wide parted less passes =
    let there = get-within xs k (omega (arith, less, wide)) in
    let is = ap (before_at bound) (place-of xs rows picked place k at (omega (arith, less, wide)) ∙ there.1) in
    count-false (comes_before bound) xs parted k there.0 there.1 (sym is ∙ passes)

pub count-le : (test : Row → Bool) (xs : List Row) → length (filter test xs) ≤ length xs
count-le test [] = omega arith
count-le test (x ∷ xs) = by (test x) (count-le test xs) where
  by : (b : Bool) → length (filter test xs) ≤ length xs → length (if b then x ∷ filter test xs else filter test xs) ≤ suc (length xs)
  by true rest = omega (arith, rest)
  by false rest = omega (arith, rest)

-- the rows at places

pub rows-step : (rows : List Row) (picked : Option (List ℕ)) (place many i : ℕ) → i < many
    → rows_at rows picked (place + i) (many - i) ≡ option_to_list (row_at rows picked (place + i)) ++ rows_at rows picked (place + (i + 1)) (many - (i + 1))
rows-step rows picked place many i less =
    let one : many - i ≡ suc (many - (i + 1)) = omega (arith, less) in
    let next : place + i + 1 ≡ place + (i + 1) = omega arith in
    ap (rows_at rows picked (place + i)) one
    ∙ ap (λ (k : ℕ). option_to_list (row_at rows picked (place + i)) ++ rows_at rows picked k (many - (i + 1))) next

rows-few : (rows : List Row) (picked : Option (List ℕ)) (place many : ℕ) → length (rows_at rows picked place many) ≤ many
rows-few rows picked place zero = omega arith
rows-few rows picked place (suc many) = by (row_at rows picked place) (rows-few rows picked (place + 1) many) where
  by : (o : Option Row) → length (rows_at rows picked (place + 1) many) ≤ many → length (option_to_list o ++ rows_at rows picked (place + 1) many) ≤ suc many
  by None rest = omega (arith, rest)
  by (Some r) rest = omega (arith, rest)

pub rows-stand : (rows : List Row) (picked : Option (List ℕ)) (place many : ℕ) → length (rows_at rows picked place many) ≡ many
    → StandAt (rows_at rows picked place many) rows picked place
rows-stand rows picked place zero wide = tt
rows-stand rows picked place (suc many) wide = by (row_at rows picked place) refl wide (rows-stand rows picked (place + 1) many) where
  by : (o : Option Row) → row_at rows picked place ≡ o → length (option_to_list o ++ rows_at rows picked (place + 1) many) ≡ suc many
      → (length (rows_at rows picked (place + 1) many) ≡ many → StandAt (rows_at rows picked (place + 1) many) rows picked (place + 1))
      → StandAt (option_to_list o ++ rows_at rows picked (place + 1) many) rows picked place
  by None is long rest = absurd (omega (arith, long, rows-few rows picked (place + 1) many))
  by (Some r) is long rest = (is, rest (omega (arith, long)))

pub rows-are : (xs rows : List Row) (picked : Option (List ℕ)) (place : ℕ) → StandAt xs rows picked place → rows_at rows picked place (length xs) ≡ xs
rows-are [] rows picked place at = refl
rows-are (x ∷ xs) rows picked place at =
    ap (λ (o : Option Row). option_to_list o ++ rows_at rows picked (place + 1) (length xs)) at.0
    ∙ ap (λ (l : List Row). x ∷ l) (rows-are xs rows picked (place + 1) at.1)
