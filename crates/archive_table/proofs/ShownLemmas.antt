-- Pages, and the rows that they show.
use Rattle.std.proofs.Common.{◌≡◌, ℕ, zero, suc, ◌+◌, List, [], ◌∷◌, ◌++◌, take, map, reverse, Bool, true, false, refl, sym, subst}
use Rattle.std.specs.Prelude.{Option, Some, None, ◌==◌, nat_le, length, if◌then◌else◌}
use Rattle.std.specs.List.{AllByRecursion}
use Rattle.std.proofs.lemmas.Grind.{reverse_onto}
use Rattle.rsm_paging.specs.declared.ask.Row.{Row}
use Rattle.rsm_paging.specs.declared.ask.Filter.{Filter}
use Rattle.rsm_paging.specs.declared.ask.PageAsk.{PageAsk}
use Rattle.rsm_paging.specs.declared.ask.Page.{Page}
use Rattle.rsm_paging.specs.Pages.{Follow, IsPage, IsPageBy, IsPageOf, as_fit, first_fit, first_page, id_of, index_of, is_past, last_page, matching, most_rows}
use Rattle.rsm_paging.specs.Pages.{row_before, row_named, row_numbered, those_after, those_before}
use Rattle.rsm_paging.proofs.ListedLemmas.{all-found}
use Rattle.rsm_paging.proofs.RiseLemmas.{kept-all}
use Rattle.archive_table.specs.Pages.{page_of, shown, shown_by, wanted, wanted_by}

-- The page.

abbrev told : (asked wanted shown : List Row) → Page
told asked wanted shown = record {
  rows = map id_of shown;
  first_index = index_of asked shown;
  count = length asked;
  complete = length shown == length wanted;
}

page-same : (p q : Page) → p.rows ≡ q.rows → p.first_index ≡ q.first_index → p.count ≡ q.count → p.complete ≡ q.complete → p ≡ q
page-same p q a b c d = λ i. record { rows = a i; first_index = b i; count = c i; complete = d i }

page-by : (asked wanted shown : List Row) (p : Page) → IsPageOf asked wanted shown p → p ≡ told asked wanted shown
page-by asked wanted shown p is = page-same p (told asked wanted shown) is.rows is.index is.count is.complete

by-way : (rows asked : List Row) (max : ℕ) (after before : Option (List ℕ)) (p : Page) → IsPageBy rows asked max after before p
    → p ≡ told asked (wanted_by rows asked after before) (shown_by (wanted_by rows asked after before) max after before)
by-way rows asked max (Some after) before p is = page-by _ _ _ p is
by-way rows asked max None (Some before) p is = page-by _ _ _ p is
by-way rows asked max None None p is = page-by _ _ _ p is

pub one-page : (rows : List Row) (f : Filter) (ask : PageAsk) (p : Page) → IsPage rows f ask p → p ≡ page_of rows f ask
one-page rows f ask p is = by-way rows (matching f rows) ask.max ask.after ask.before p is

-- Its rows.

module _ (P : Row → Type 0) where
  all-take : (n : ℕ) (rows : List Row) → AllByRecursion P rows → AllByRecursion P (take n rows)
  all-take zero rows all = tt
  all-take (suc n) [] all = tt
  all-take (suc n) (r ∷ rows) all = (all.0, all-take n rows all.1)

  all-append : (xs ys : List Row) → AllByRecursion P xs → AllByRecursion P ys → AllByRecursion P (xs ++ ys)
  all-append [] ys a b = b
  all-append (x ∷ xs) ys a b = (a.0, all-append xs ys a.1 b)

  all-reverse : (xs : List Row) → AllByRecursion P xs → AllByRecursion P (reverse xs)
  all-reverse [] all = tt
  all-reverse (x ∷ xs) all =
      subst (AllByRecursion P) (sym (reverse_onto xs x [])) (all-append (reverse xs) (x ∷ []) (all-reverse xs all.1) (all.0, tt))

  all-fit : (bytes : ℕ) (rows : List Row) → AllByRecursion P rows → AllByRecursion P (as_fit bytes rows)
  all-fit bytes [] all = tt
  all-fit bytes (r ∷ rows) all = by (nat_le (bytes + length r.text) 262144) (all-fit (bytes + length r.text) rows all.1) where
    by : (b : Bool) → AllByRecursion P (as_fit (bytes + length r.text) rows)
        → AllByRecursion P (if b then r ∷ as_fit (bytes + length r.text) rows else [])
    by true rest = (all.0, rest)
    by false rest = tt

  all-first-fit : (rows : List Row) → AllByRecursion P rows → AllByRecursion P (first_fit rows)
  all-first-fit [] all = tt
  all-first-fit (r ∷ rows) all = (all.0, all-fit (length r.text) rows all.1)

  all-first : (max : ℕ) (rows : List Row) → AllByRecursion P rows → AllByRecursion P (first_page max rows)
  all-first max rows all = all-first-fit (take (most_rows max) rows) (all-take (most_rows max) rows all)

  all-last : (max : ℕ) (rows : List Row) → AllByRecursion P rows → AllByRecursion P (last_page max rows)
  all-last max rows all = all-reverse (first_page max (reverse rows)) (all-first max (reverse rows) (all-reverse rows all))

  all-after : (o : Option Row) (rows : List Row) → AllByRecursion P rows → AllByRecursion P (those_after o rows)
  all-after None rows all = all
  all-after (Some row) rows all = kept-all P (is_past row) rows all

  all-before : (o : Option Row) (rows : List Row) → AllByRecursion P rows → AllByRecursion P (those_before o rows)
  all-before None rows all = all
  all-before (Some row) rows all = kept-all P (λ other. is_past other row) rows all

  all-shown : (rows asked : List Row) (max : ℕ) (after before : Option (List ℕ)) → AllByRecursion P asked
      → AllByRecursion P (shown_by (wanted_by rows asked after before) max after before)
  all-shown rows asked max (Some after) before all =
      all-first max (those_after (row_named after rows) asked) (all-after (row_named after rows) asked all)
  all-shown rows asked max None (Some before) all =
      all-last max (those_before (row_before before rows) asked) (all-before (row_before before rows) asked all)
  all-shown rows asked max None None all = all-first max asked all

cons-same : {A : Type 0} (x y : A) (xs ys : List A) → x ≡ y → xs ≡ ys → x ∷ xs ≡ y ∷ ys
cons-same x y xs ys a b = λ i. a i ∷ b i

named : (rows xs : List Row) → AllByRecursion (λ x. row_numbered (Some x.id) rows ≡ Some x) xs
    → map (λ id. row_numbered (Some id) rows) (map id_of xs) ≡ map Some xs
named rows [] all = refl
named rows (x ∷ xs) all = cons-same _ _ _ _ all.0 (named rows xs all.1)

pub shown-named : (n : ℕ) (rows : List Row) (f : Filter) (ask : PageAsk) → Follow n rows
    → map (λ id. row_numbered (Some id) rows) (page_of rows f ask).rows ≡ map Some (shown rows f ask)
shown-named n rows f ask follow =
    let found = all-found n rows follow in
    named rows (shown rows f ask)
    (all-shown (λ x. row_numbered (Some x.id) rows ≡ Some x) rows (matching f rows) ask.max ask.after ask.before
    (kept-all (λ x. row_numbered (Some x.id) rows ≡ Some x) _ rows found))
