-- The page that is asked for of an archive's rows, and the rows that it shows (XEP-0313, 4, with XEP-0059, 2).
use Rattle.std.specs.Prelude.{ℕ, ◌==◌, List, map, length, Option, Some, None}
use Rattle.rsm_paging.specs.declared.ask.Row.{Row}
use Rattle.rsm_paging.specs.declared.ask.Filter.{Filter}
use Rattle.rsm_paging.specs.declared.ask.PageAsk.{PageAsk}
use Rattle.rsm_paging.specs.declared.ask.Page.{Page}
use Rattle.rsm_paging.specs.Pages.{first_page, id_of, index_of, last_page, matching, row_before, row_named, those_after, those_before}

abbrev pub wanted_by : (rows asked : List Row) → (after before : Option (List ℕ)) → List Row
wanted_by rows asked (Some after) before = those_after (row_named after rows) asked
wanted_by rows asked None (Some before) = those_before (row_before before rows) asked
wanted_by rows asked None None = asked

abbrev pub shown_by : (wanted : List Row) → (max : ℕ) → (after before : Option (List ℕ)) → List Row
shown_by wanted max (Some after) before = first_page max wanted
shown_by wanted max None (Some before) = last_page max wanted
shown_by wanted max None None = first_page max wanted

abbrev pub wanted : List Row → Filter → PageAsk → List Row
wanted rows f ask = wanted_by rows (matching f rows) ask.after ask.before

-- the rows of the page
abbrev pub shown : List Row → Filter → PageAsk → List Row
shown rows f ask = shown_by (wanted rows f ask) ask.max ask.after ask.before

-- and what it tells of them
abbrev pub page_of : List Row → Filter → PageAsk → Page
page_of rows f ask = record {
  rows = map id_of (shown rows f ask);
  first_index = index_of (matching f rows) (shown rows f ask);
  count = length (matching f rows);
  complete = length (shown rows f ask) == length (wanted rows f ask);
}
