-- The rows of the moments that are asked for stand at places that follow each other.
use Rattle.std.proofs.Common.{◌≡◌, ℕ, suc, ◌+◌, ◌-◌, ◌^◌, ◌<◌, ◌≤◌, nat_le, nat_lt, List, [], ◌∷◌, take, drop, length, Bool, true, false, refl}
use Rattle.std.proofs.Common.{ap, sym, ◌∙◌, subst, arith, if◌then◌else◌}
use Rattle.std.specs.Prelude.{Option, Some, None, not, ◌&&◌}
use Rattle.std.specs.List.{AllByRecursion, filter}
use Rattle.std.proofs.lemmas.Grind.{common_steps}
use Rattle.std.proofs.lemmas.List.{length-drop, length-take-le}
use Rattle.rsm_paging.specs.Pages.{Follow, Rises, StampsRise, is_from, is_until}
use Rattle.rsm_paging.specs.Places.{IsParted, IsSpan, before_start, between, comes_before, listed, many_of, rows_at, until_end}
use Rattle.rsm_paging.specs.declared.ask.Filter.{Filter}
use Rattle.rsm_paging.specs.declared.ask.Row.{Row}
use Rattle.rsm_paging.specs.declared.placing.Bound.TheVariants.{Stamp, PastStamp, Id, PastId}
use Rattle.rsm_paging.proofs.ListedLemmas.{filter-same}
use Rattle.rsm_paging.proofs.PlaceLemmas.{rows-are, rows-stand, stand-drop, stand-take}
use Rattle.rsm_paging.proofs.RiseLemmas.{le-false, le-of, le-true, lt-false, lt-of}

-- how the rows are parted

not-false : (b : Bool) → not b ≡ false → b ≡ true
not-false true is = refl
not-false false is = absurd (let z : true ≡ false = is in cc)

lt-not : (a b : ℕ) → nat_lt a b ≡ false → b ≤ a
lt-not a b is = grind (arith, common_steps)

stamps-from : (s : ℕ) (rows : List Row) → StampsRise s rows → AllByRecursion (λ y. s ≤ y.stamp) rows
stamps-from s [] rise = tt
stamps-from s (r ∷ rows) rise = let le = rise.0 in (le, later s r.stamp rows le (stamps-from r.stamp rows rise.1)) where
  later : (s t : ℕ) (rows : List Row) → s ≤ t → AllByRecursion (λ y. t ≤ y.stamp) rows → AllByRecursion (λ y. s ≤ y.stamp) rows
  later s t [] le all = tt
  later s t (x ∷ rows) le all = (let is = all.0 in omega (arith, le, is), later s t rows le all.1)

start-later : (s t : ℕ) (rows : List Row) → s ≤ t → AllByRecursion (λ y. t ≤ y.stamp) rows
    → AllByRecursion (λ y. comes_before (Stamp s) y ≡ false) rows
start-later s t [] le all = tt
start-later s t (x ∷ rows) le all =
    (let is = all.0 in ap not (le-true s x.stamp (omega (arith, le, is))), start-later s t rows le all.1)

pub parted_start : (s t : ℕ) (rows : List Row) → StampsRise t rows → IsParted (comes_before (Stamp s)) rows
parted_start s t [] rise = tt
parted_start s t (r ∷ rows) rise = (
  λ is. start-later s r.stamp rows (le-of s r.stamp (not-false (nat_le s r.stamp) is)) (stamps-from r.stamp rows rise.1),
  parted_start s r.stamp rows rise.1,
)

end-later : (e t : ℕ) (rows : List Row) → e < t → AllByRecursion (λ y. t ≤ y.stamp) rows
    → AllByRecursion (λ y. comes_before (PastStamp e) y ≡ false) rows
end-later e t [] le all = tt
end-later e t (x ∷ rows) le all =
    (let is = all.0 in le-false x.stamp e (omega (arith, le, is)), end-later e t rows le all.1)

pub parted_end : (e t : ℕ) (rows : List Row) → StampsRise t rows → IsParted (comes_before (PastStamp e)) rows
parted_end e t [] rise = tt
parted_end e t (r ∷ rows) rise = (
  λ is. end-later e r.stamp rows (lt-of r.stamp e is) (stamps-from r.stamp rows rise.1),
  parted_end e r.stamp rows rise.1,
)

id-later : (b t : ℕ) (rows : List Row) → b ≤ t → AllByRecursion (λ l. t < l.id) rows → AllByRecursion (λ y. comes_before (Id b) y ≡ false) rows
id-later b t [] le all = tt
id-later b t (x ∷ rows) le all = (let is = all.0 in lt-false x.id b (omega (arith, le, is)), id-later b t rows le all.1)

pub parted_id : (b : ℕ) (rows : List Row) → Rises rows → IsParted (comes_before (Id b)) rows
parted_id b [] rises = tt
parted_id b (r ∷ rows) rises = (λ is. id-later b r.id rows (lt-not r.id b is) rises.0, parted_id b rows rises.1)

past-later : (a t : ℕ) (rows : List Row) → a < t → AllByRecursion (λ l. t < l.id) rows → AllByRecursion (λ y. comes_before (PastId a) y ≡ false) rows
past-later a t [] less all = tt
past-later a t (x ∷ rows) less all = (let is = all.0 in le-false x.id a (omega (arith, less, is)), past-later a t rows less all.1)

pub parted_past_id : (a : ℕ) (rows : List Row) → Rises rows → IsParted (comes_before (PastId a)) rows
parted_past_id a [] rises = tt
parted_past_id a (r ∷ rows) rises = (λ is. past-later a r.id rows (lt-of r.id a is) rises.0, parted_past_id a rows rises.1)

-- which of them are asked for

none-of : (test : Row → Bool) (rows : List Row) → AllByRecursion (λ y. test y ≡ false) rows → filter test rows ≡ []
none-of test [] all = refl
none-of test (r ∷ rows) all = rw all.0 (none-of test rows all.1)

and-none : (front until : Row → Bool) (rows : List Row) → AllByRecursion (λ y. until y ≡ false) rows
    → AllByRecursion (λ y. (front y && until y) ≡ false) rows
and-none front until [] all = tt
and-none front until (r ∷ rows) all = (by (front r) (until r) all.0, and-none front until rows all.1) where
  by : (a b : Bool) → b ≡ false → (a && b) ≡ false
  by true b is = is
  by false b is = refl

window : (early until : Row → Bool) (rows : List Row) → IsParted early rows → IsParted until rows
    → filter (λ r. not (early r) && until r) rows
    ≡ take (length (filter until rows) - length (filter early rows)) (drop (length (filter early rows)) rows)
window early until [] e u = refl
window early until (r ∷ rows) e u = by (early r) (until r) refl refl (window early until rows e.1 u.1) where
  rest : ℕ
  rest = length (filter early rows)

  upto : ℕ
  upto = length (filter until rows)

  none-until : until r ≡ false → upto ≡ 0
  none-until is = ap length (none-of until rows (u.0 is))

  none-early : early r ≡ false → rest ≡ 0
  none-early is = ap length (none-of early rows (e.0 is))

  none-both : until r ≡ false → filter (λ y. not (early y) && until y) rows ≡ []
  none-both is = none-of (λ y. not (early y) && until y) rows (and-none (λ y. not (early y)) until rows (u.0 is))

  by : (a b : Bool) → early r ≡ a → until r ≡ b → filter (λ y. not (early y) && until y) rows ≡ take (upto - rest) (drop rest rows)
      → (if not a && b then r ∷ filter (λ y. not (early y) && until y) rows else filter (λ y. not (early y) && until y) rows)
      ≡ take (length (if b then r ∷ filter until rows else filter until rows) - length (if a then r ∷ filter early rows else filter early rows))
      (drop (length (if a then r ∷ filter early rows else filter early rows)) (r ∷ rows))
  by true true ea ub ih =
      let less : upto - rest ≡ suc upto - suc rest = omega arith in
      ih ∙ ap (λ (k : ℕ). take k (drop rest rows)) less
  by true false ea ub ih =
      let no : 0 ≡ upto - suc rest = omega (arith, none-until ub) in
      none-both ub ∙ ap (λ (k : ℕ). take k (drop rest rows)) no
  by false true ea ub ih =
      let z : rest ≡ 0 = none-early ea in
      let zero-less : suc (upto - rest) ≡ suc upto - rest = omega (arith, z) in
      let here : filter (λ y. not (early y) && until y) rows ≡ take (upto - rest) rows =
      ih ∙ ap (λ (k : ℕ). take (upto - rest) (drop k rows)) z in
      ap (λ (l : List Row). r ∷ l) here ∙ ap (λ (k : ℕ). take k (r ∷ rows)) zero-less
      ∙ ap (λ (k : ℕ). take (suc upto - rest) (drop k (r ∷ rows))) (sym z)
  by false false ea ub ih =
      let no : 0 ≡ upto - rest = omega (arith, none-until ub) in
      none-both ub ∙ ap (λ (k : ℕ). take k (drop rest (r ∷ rows))) no

abbrev early : Option ℕ → Row → Bool
early None r = false
early (Some s) r = comes_before (Stamp s) r

abbrev upto : Option ℕ → Row → Bool
upto None r = true
upto (Some e) r = comes_before (PastStamp e) r

not-not : (b : Bool) → b ≡ not (not b)
not-not true = refl
not-not false = refl

tests : (start end : Option ℕ) (r : Row) → (is_from start r.stamp && is_until end r.stamp) ≡ (not (early start r) && upto end r)
tests None None r = refl
tests None (Some e) r = refl
tests (Some s) None r = ap (λ (b : Bool). b && true) (not-not (nat_le s r.stamp))
tests (Some s) (Some e) r = ap (λ (b : Bool). b && nat_le r.stamp e) (not-not (nat_le s r.stamp))

none-early : (rows : List Row) → 0 ≡ length (filter (λ r. early None r) rows)
none-early [] = refl
none-early (r ∷ rows) = none-early rows

early-count : (start : Option ℕ) (rows : List Row) → before_start start rows ≡ length (filter (λ r. early start r) rows)
early-count None rows = none-early rows
early-count (Some s) rows = refl

all-upto : (rows : List Row) → length rows ≡ length (filter (λ r. upto None r) rows)
all-upto [] = refl
all-upto (r ∷ rows) = ap suc (all-upto rows)

upto-count : (end : Option ℕ) (rows : List Row) → until_end end rows ≡ length (filter (λ r. upto end r) rows)
upto-count None rows = all-upto rows
upto-count (Some e) rows = refl

none-early-parted : (rows : List Row) → IsParted (λ r. early None r) rows
none-early-parted [] = tt
none-early-parted (r ∷ rows) = (λ _. all rows, none-early-parted rows) where
  all : (rows : List Row) → AllByRecursion (λ y. early None y ≡ false) rows
  all [] = tt
  all (x ∷ rows) = (refl, all rows)

early-parted : (start : Option ℕ) (rows : List Row) → StampsRise 0 rows → IsParted (λ r. early start r) rows
early-parted None rows rise = none-early-parted rows
early-parted (Some s) rows rise = parted_start s 0 rows rise

all-upto-parted : (rows : List Row) → IsParted (λ r. upto None r) rows
all-upto-parted [] = tt
all-upto-parted (r ∷ rows) = (λ is. absurd (let z : true ≡ false = is in cc), all-upto-parted rows)

upto-parted : (end : Option ℕ) (rows : List Row) → StampsRise 0 rows → IsParted (λ r. upto end r) rows
upto-parted None rows rise = all-upto-parted rows
upto-parted (Some e) rows rise = parted_end e 0 rows rise

pub between-is : (f : Filter) (rows : List Row) → StampsRise 0 rows
    → between f rows ≡ take (until_end f.end rows - before_start f.start rows) (drop (before_start f.start rows) rows)
between-is f rows rise =
    filter-same (λ r. is_from f.start r.stamp && is_until f.end r.stamp) (λ r. not (early f.start r) && upto f.end r) (tests f.start f.end) rows
    ∙ window (λ r. early f.start r) (λ r. upto f.end r) rows (early-parted f.start rows rise) (upto-parted f.end rows rise)
    ∙ ap (λ (k : ℕ). take (k - length (filter (λ r. early f.start r) rows)) (drop (length (filter (λ r. early f.start r) rows)) rows)) (sym (upto-count f.end rows))
    ∙ ap (λ (k : ℕ). take (until_end f.end rows - k) (drop k rows)) (sym (early-count f.start rows))

-- rows within others

pub rows-within : (rows : List Row) (picked : Option (List ℕ)) (place many from n : ℕ) → length (rows_at rows picked place many) ≡ many
    → from + n ≤ many → rows_at rows picked (place + from) n ≡ take n (drop from (rows_at rows picked place many))
rows-within rows picked place many from n wide few =
    let xs : List Row = rows_at rows picked place many in
    let sub : List Row = take n (drop from xs) in
    let at = stand-take n (drop from xs) rows picked (place + from) (stand-drop from xs rows picked place (rows-stand rows picked place many wide)) in
    let long : length sub ≡ n = length-take-le n (drop from xs) (omega (arith, few, wide, length-drop from xs)) in
    ap (rows_at rows picked (place + from)) (sym long) ∙ rows-are sub rows picked (place + from) at

pub span-all : (rows : List Row) (picked : Option (List ℕ)) (many : ℕ) → ((n : ℕ) × Follow n rows) → many < 2 ^ 64 → many ≡ many_of rows picked
    → length (listed rows picked) ≡ many_of rows picked → IsSpan rows picked 0 many
span-all rows picked many ids short is there = record {
  ids = ids;
  places = omega (arith, short);
  there = subst (λ (n : ℕ). length (rows_at rows picked 0 n) ≡ n) (sym is) there;
}

pub span-within : (rows : List Row) (picked : Option (List ℕ)) (place many from n : ℕ) → IsSpan rows picked place many → from + n ≤ many
    → IsSpan rows picked (place + from) n
span-within rows picked place many from n span few =
    let there = span.there in
    let places = span.places in
    let xs : List Row = rows_at rows picked place many in
    record {
      ids = span.ids;
      places = omega (arith, few, places);
      there = ap length (rows-within rows picked place many from n there few) ∙ length-take-le n (drop from xs) (omega (arith, few, there, length-drop from xs));
    }

pub asked-span : (f : Filter) (rows : List Row) (picked : Option (List ℕ)) (many from until n : ℕ) → IsSpan rows picked 0 many
    → StampsRise 0 (rows_at rows picked 0 many) → from ≤ many → from ≡ before_start f.start (rows_at rows picked 0 many) → until ≤ many
    → until ≡ until_end f.end (rows_at rows picked 0 many) → n ≡ until - from
    → IsSpan rows picked from n × (rows_at rows picked from n ≡ between f (rows_at rows picked 0 many))
asked-span f rows picked many from until n span rise low front high back is =
    let xs : List Row = rows_at rows picked 0 many in
    let there = span.there in
    let places = span.places in
    let fit : from + n ≤ many = omega (arith, is, low, high) in
    let start : from ≡ 0 + from = omega arith in
    let rows-are : rows_at rows picked from n ≡ take n (drop from xs) =
    ap (λ (k : ℕ). rows_at rows picked k n) start ∙ rows-within rows picked 0 many from n there fit in
    let long : length (take n (drop from xs)) ≡ n = length-take-le n (drop from xs) (omega (arith, fit, there, length-drop from xs)) in (
      record {
        ids = span.ids;
        places = omega (arith, fit, places);
        there = ap length rows-are ∙ long;
      },
      rows-are ∙ ap (λ (k : ℕ). take k (drop from xs)) (is ∙ ap (λ (k : ℕ). k - from) back)
          ∙ ap (λ (k : ℕ). take (until_end f.end xs - k) (drop k xs)) front ∙ sym (between-is f xs rise),
    )
