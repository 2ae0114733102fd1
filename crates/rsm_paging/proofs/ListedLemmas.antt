-- All rows, and those that are picked, by their places.
use Rattle.std.proofs.Common.{◌≡◌, ℕ, suc, ◌+◌, ◌<◌, ◌≤◌, List, [], ◌∷◌, map, length, slice_get, Bool, true, false, refl}
use Rattle.std.proofs.Common.{ap, sym, ◌∙◌, arith, if◌then◌else◌}
use Rattle.std.specs.Prelude.{Option, Some, None, ◌&&◌}
use Rattle.std.specs.List.{AllByRecursion, filter}
use Rattle.std.specs.Option.{option_map}
use Rattle.std.proofs.lemmas.List.{length-map}
use Rattle.std.proofs.lemmas.Option.{slice_get-map}
use Rattle.jid_core.specs.Addresses.{Address}
use Rattle.rsm_paging.specs.Pages.{Follow, Rises, StampsRise, fits, fits_peer, id_of, is_from, is_until, matching, row_numbered}
use Rattle.rsm_paging.specs.Places.{StandAt, between, listed, rows_at}
use Rattle.rsm_paging.specs.declared.ask.Filter.{Filter}
use Rattle.rsm_paging.specs.declared.ask.Row.{Row}
use Rattle.rsm_paging.proofs.PlaceLemmas.{eqb-apart, eqb-same, rows-are}
use Rattle.rsm_paging.proofs.RiseLemmas.{kept-all}

-- ids that follow each other

ids-from : (k n : ℕ) (rows : List Row) → k < n → Follow n rows → AllByRecursion (λ l. k < l.id) rows
ids-from k n [] less all = tt
ids-from k n (r ∷ rows) less all = let at = all.0 in (omega (arith, less, at), ids-from k (n + 1) rows (omega (arith, less)) all.1)

pub follow-rises : (n : ℕ) (rows : List Row) → Follow n rows → Rises rows
follow-rises n [] all = tt
follow-rises n (r ∷ rows) all = let at = all.0 in (ids-from r.id (n + 1) rows (omega (arith, at)) all.1, follow-rises (n + 1) rows all.1)

further-found : (r : Row) (rows xs : List Row) → AllByRecursion (λ x. r.id < x.id) xs → AllByRecursion (λ x. row_numbered (Some x.id) rows ≡ Some x) xs
    → AllByRecursion (λ x. row_numbered (Some x.id) (r ∷ rows) ≡ Some x) xs
further-found r rows [] above found = tt
further-found r rows (x ∷ xs) above found =
    (rw (eqb-apart r.id x.id above.0) found.0, further-found r rows xs above.1 found.1)

pub all-found : (n : ℕ) (rows : List Row) → Follow n rows → AllByRecursion (λ x. row_numbered (Some x.id) rows ≡ Some x) rows
all-found n [] all = tt
all-found n (r ∷ rows) all =
    let at = all.0 in
    (rw (eqb-same r.id r.id refl) refl, further-found r rows rows (ids-from r.id (n + 1) rows (omega (arith, at)) all.1) (all-found (n + 1) rows all.1))

-- all rows

stand-all : (xs rows : List Row) (k : ℕ) → ((j : ℕ) → slice_get rows (k + j) ≡ slice_get xs j) → StandAt xs rows None k
stand-all [] rows k same = tt
stand-all (x ∷ xs) rows k same =
    let here : k ≡ k + 0 = omega arith in (
      ap (slice_get rows) here ∙ same 0,
      stand-all xs rows (k + 1) (λ j. let next : k + 1 + j ≡ k + suc j = omega arith in ap (slice_get rows) next ∙ same (suc j)),
    )

pub listed-all : (rows : List Row) → listed rows None ≡ rows
listed-all rows = rows-are rows rows None 0 (stand-all rows rows 0 (λ j. let same : 0 + j ≡ j = omega arith in ap (slice_get rows) same))

-- those that are picked

stand-picked : (xs rows : List Row) (picked : List ℕ) (k : ℕ) → ((j : ℕ) → slice_get picked (k + j) ≡ option_map id_of (slice_get xs j))
    → AllByRecursion (λ x. row_numbered (Some x.id) rows ≡ Some x) xs → StandAt xs rows (Some picked) k
stand-picked [] rows picked k same found = tt
stand-picked (x ∷ xs) rows picked k same found =
    let here : k ≡ k + 0 = omega arith in (
      ap (λ (i : ℕ). row_numbered (slice_get picked i) rows) here ∙ ap (λ (o : Option ℕ). row_numbered o rows) (same 0) ∙ found.0,
      stand-picked xs rows picked (k + 1) (λ j. let next : k + 1 + j ≡ k + suc j = omega arith in ap (slice_get picked) next ∙ same (suc j)) found.1,
    )

pub listed-picked : (n : ℕ) (rows : List Row) → Follow n rows → (p : Row → Bool) (picked : List ℕ) → picked ≡ map id_of (filter p rows)
    → listed rows (Some picked) ≡ filter p rows
listed-picked n rows all p picked is =
    let xs : List Row = filter p rows in
    let long : length picked ≡ length xs = ap length is ∙ length-map xs id_of in
    ap (rows_at rows (Some picked) 0) long
    ∙ rows-are xs rows (Some picked) 0 (
    stand-picked xs rows picked 0
    (λ j. let same : 0 + j ≡ j = omega arith in ap (slice_get picked) same ∙ ap (λ (l : List ℕ). slice_get l j) is ∙ slice_get-map id_of xs j)
    (kept-all (λ x. row_numbered (Some x.id) rows ≡ Some x) p rows (all-found n rows all))
    )

-- stamps of some of them

pub stamps-lower : (s t : ℕ) (rows : List Row) → s ≤ t → StampsRise t rows → StampsRise s rows
stamps-lower s t [] le rise = tt
stamps-lower s t (r ∷ rows) le rise = (let is = rise.0 in omega (arith, le, is), rise.1)

pub stamps-filter : (p : Row → Bool) (s : ℕ) (rows : List Row) → StampsRise s rows → StampsRise s (filter p rows)
stamps-filter p s [] rise = tt
stamps-filter p s (r ∷ rows) rise = by (p r) (stamps-filter p r.stamp rows rise.1) where
  by : (b : Bool) → StampsRise r.stamp (filter p rows) → StampsRise s (if b then r ∷ filter p rows else filter p rows)
  by true rest = (rise.0, rest)
  by false rest = stamps-lower s r.stamp (filter p rows) rise.0 rest

-- the rows that are asked for

filter-both : (p q : Row → Bool) (rows : List Row) → filter (λ r. p r && q r) rows ≡ filter q (filter p rows)
filter-both p q [] = refl
filter-both p q (r ∷ rows) = by (p r) (filter-both p q rows) where
  by : (b : Bool) → filter (λ r. p r && q r) rows ≡ filter q (filter p rows)
      → (if b && q r then r ∷ filter (λ r. p r && q r) rows else filter (λ r. p r && q r) rows) ≡ filter q (if b then r ∷ filter p rows else filter p rows)
  by true rest = ap (λ (l : List Row). if q r then r ∷ l else l) rest
  by false rest = rest

pub between-peer : (f : Filter) (rows : List Row) → between f (filter (λ r. fits_peer f.peer r.peer) rows) ≡ matching f rows
between-peer f rows = sym (filter-both (λ r. fits_peer f.peer r.peer) (λ r. is_from f.start r.stamp && is_until f.end r.stamp) rows)

pub filter-same : (p q : Row → Bool) → ((r : Row) → p r ≡ q r) → (rows : List Row) → filter p rows ≡ filter q rows
filter-same p q same [] = refl
filter-same p q same (r ∷ rows) =
    ap (λ (b : Bool). if b then r ∷ filter p rows else filter p rows) (same r)
    ∙ ap (λ (l : List Row). if q r then r ∷ l else l) (filter-same p q same rows)

pub between-all : (f : Filter) (rows : List Row) → f.peer ≡ None → between f rows ≡ matching f rows
between-all f rows none =
    filter-same (λ r. is_from f.start r.stamp && is_until f.end r.stamp) (fits f)
    (λ r. sym (ap (λ (o : Option Address). fits_peer o r.peer && (is_from f.start r.stamp && is_until f.end r.stamp)) none)) rows
