-- What holds of an archive's rows holds of those that a page shows.
use Rattle.std.proofs.Common.{ℕ, zero, suc, ◌+◌, List, [], ◌∷◌, take, reverse, length, nat_le, Bool, true, false, Option, Some, None}
use Rattle.std.proofs.Common.{sym, subst, if◌then◌else◌}
use Rattle.std.specs.List.{AllByRecursion}
use Rattle.std.proofs.lemmas.Grind.{reverse_onto}
use Rattle.rsm_paging.specs.declared.ask.Filter.{Filter}
use Rattle.rsm_paging.specs.declared.ask.PageAsk.{PageAsk}
use Rattle.rsm_paging.specs.declared.ask.Row.{Row}
use Rattle.rsm_paging.specs.Pages.{as_fit, first_fit, first_page, fits, is_past, last_page, matching, most_rows, row_before, row_named, those_after}
use Rattle.rsm_paging.specs.Pages.{those_before}
use Rattle.archive_table.specs.Pages.{shown, shown_by, wanted_by}
use Rattle.house_model.proofs.Founds.{append_all, filter_all}

module _ (P : Row → Type 0) where
  pub take-all : (n : ℕ) (rows : List Row) → AllByRecursion P rows → AllByRecursion P (take n rows)
  take-all zero rows all = tt
  take-all (suc n) [] all = tt
  take-all (suc n) (r ∷ rows) all = (all.0, take-all n rows all.1)

  reverse-all : (rows : List Row) → AllByRecursion P rows → AllByRecursion P (reverse rows)
  reverse-all [] all = tt
  reverse-all (r ∷ rows) all =
      subst (AllByRecursion P) (sym (reverse_onto rows r [])) (append_all P (reverse rows) (r ∷ []) (reverse-all rows all.1) (all.0, tt))

  fit-all : (bytes : ℕ) (rows : List Row) → AllByRecursion P rows → AllByRecursion P (as_fit bytes rows)
  fit-all bytes [] all = tt
  fit-all bytes (r ∷ rows) all = by (nat_le (bytes + length r.text) 262144) (fit-all (bytes + length r.text) rows all.1) where
    by : (b : Bool) → AllByRecursion P (as_fit (bytes + length r.text) rows)
        → AllByRecursion P (if b then r ∷ as_fit (bytes + length r.text) rows else [])
    by true rest = (all.0, rest)
    by false rest = tt

  first-fit : (rows : List Row) → AllByRecursion P rows → AllByRecursion P (first_fit rows)
  first-fit [] all = tt
  first-fit (r ∷ rows) all = (all.0, fit-all (length r.text) rows all.1)

  first-all : (max : ℕ) (rows : List Row) → AllByRecursion P rows → AllByRecursion P (first_page max rows)
  first-all max rows all = first-fit (take (most_rows max) rows) (take-all (most_rows max) rows all)

  last-all : (max : ℕ) (rows : List Row) → AllByRecursion P rows → AllByRecursion P (last_page max rows)
  last-all max rows all = reverse-all (first_page max (reverse rows)) (first-all max (reverse rows) (reverse-all rows all))

  after-all : (o : Option Row) (rows : List Row) → AllByRecursion P rows → AllByRecursion P (those_after o rows)
  after-all None rows all = all
  after-all (Some row) rows all = filter_all P (is_past row) rows all

  before-all : (o : Option Row) (rows : List Row) → AllByRecursion P rows → AllByRecursion P (those_before o rows)
  before-all None rows all = all
  before-all (Some row) rows all = filter_all P (λ other. is_past other row) rows all

  by-way : (rows asked : List Row) (max : ℕ) (after before : Option (List ℕ)) → AllByRecursion P asked
      → AllByRecursion P (shown_by (wanted_by rows asked after before) max after before)
  by-way rows asked max (Some after) before all =
      first-all max (those_after (row_named after rows) asked) (after-all (row_named after rows) asked all)
  by-way rows asked max None (Some before) all =
      last-all max (those_before (row_before before rows) asked) (before-all (row_before before rows) asked all)
  by-way rows asked max None None all = first-all max asked all

  pub shown-all : (rows : List Row) (f : Filter) (ask : PageAsk) → AllByRecursion P rows → AllByRecursion P (shown rows f ask)
  shown-all rows f ask all = by-way rows (matching f rows) ask.max ask.after ask.before (filter_all P (fits f) rows all)
