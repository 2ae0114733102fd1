-- Rows by their places: among all rows, or among those of some ids.
use Rattle.std.specs.Prelude.{ℕ, zero, suc, ◌+◌, ◌-◌, ◌^◌, ◌<◌, ◌==◌, ◌≡◌, nat_le, nat_lt, List, [], ◌∷◌, ◌++◌, take, reverse, length, slice_get, Bool, false, not, ◌&&◌, Option, Some, None, ⊤}
use Rattle.std.specs.List.{AllByRecursion, filter}
use Rattle.std.specs.Option.{option_to_list}
use Rattle.rsm_paging.specs.Matches.{how_many, ids, index_if}
use Rattle.rsm_paging.specs.Pages.{Follow, is_from, is_until, row_numbered}
use Rattle.rsm_paging.specs.declared.ask.Filter.{Filter}
use Rattle.rsm_paging.specs.declared.ask.Page.{Page}
use Rattle.rsm_paging.specs.declared.ask.Row.{Row}
use Rattle.rsm_paging.specs.declared.matching.Match.{Match}
use Rattle.rsm_paging.specs.declared.placing.Bound.{Bound}
use Rattle.rsm_paging.specs.declared.placing.Bound.TheVariants.{Stamp, PastStamp, Id, PastId}

abbrev pub many_of : List Row → Option (List ℕ) → ℕ
many_of rows None = length rows
many_of rows (Some ids) = length ids

abbrev pub row_at : List Row → Option (List ℕ) → (place : ℕ) → Option Row
row_at rows None place = slice_get rows place
row_at rows (Some ids) place = row_numbered (slice_get ids place) rows

-- these stand at the places from this one on
abbrev pub StandAt : List Row → List Row → Option (List ℕ) → ℕ → Type 0
StandAt [] rows picked place = ⊤
StandAt (x ∷ xs) rows picked place = (row_at rows picked place ≡ Some x) × StandAt xs rows picked (place + 1)

abbrev pub comes_before : Bound → Row → Bool
comes_before (Stamp stamp) row = not (nat_le stamp row.stamp)
comes_before (PastStamp stamp) row = nat_le row.stamp stamp
comes_before (Id id) row = nat_lt row.id id
comes_before (PastId id) row = nat_le row.id id

abbrev pub before_at : Bound → Option Row → Bool
before_at bound None = false
before_at bound (Some row) = comes_before bound row

-- those that pass stand before all others
abbrev pub IsParted : (Row → Bool) → List Row → Type 0
IsParted test [] = ⊤
IsParted test (x ∷ xs) = (test x ≡ false → AllByRecursion (λ y. test y ≡ false) xs) × IsParted test xs

-- the rows at so many places, from this one on
abbrev pub rows_at : List Row → Option (List ℕ) → (place many : ℕ) → List Row
rows_at rows picked place zero = []
rows_at rows picked place (suc many) = option_to_list (row_at rows picked place) ++ rows_at rows picked (place + 1) many

-- the rows at all places
abbrev pub listed : List Row → Option (List ℕ) → List Row
listed rows picked = rows_at rows picked 0 (many_of rows picked)

-- there is a row at each of so many places from this one on, and ids follow each other
pub record IsSpan (rows : List Row) (picked : Option (List ℕ)) (from many : ℕ) : Type 0 where
  pub ids : (n : ℕ) × Follow n rows
  pub places : from + many < 2 ^ 64
  pub there : length (rows_at rows picked from many) ≡ many

-- those of the moments that are asked for
abbrev pub between : Filter → List Row → List Row
between f rows = filter (λ row. is_from f.start row.stamp && is_until f.end row.stamp) rows

abbrev pub before_start : Option ℕ → List Row → ℕ
before_start None rows = 0
before_start (Some start) rows = length (filter (comes_before (Stamp start)) rows)

abbrev pub until_end : Option ℕ → List Row → ℕ
until_end None rows = length rows
until_end (Some end) rows = length (filter (comes_before (PastStamp end)) rows)

-- the page that begins with the first of these, which stand at this place of so many that are wanted
pub record IsFrontOf (front : List Match) (from wanted all : ℕ) (page : Page) : Type 0 where
  pub rows : page.rows ≡ ids (take (how_many front) front)
  pub index : page.first_index ≡ index_if (how_many front) from
  pub count : page.count ≡ all
  pub complete : page.complete ≡ (how_many front == wanted)

-- the page that ends with the first of these, the last of so many that are wanted
pub record IsBackOf (back : List Match) (wanted all : ℕ) (page : Page) : Type 0 where
  pub rows : page.rows ≡ reverse (ids (take (how_many back) back))
  pub index : page.first_index ≡ index_if (how_many back) (wanted - how_many back)
  pub count : page.count ≡ all
  pub complete : page.complete ≡ (how_many back == wanted)
