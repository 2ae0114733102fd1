-- Pages that follow each other (XEP-0059, 2.2): each is asked for after the last row of the one before.
use Rattle.std.specs.Prelude.{ℕ, ◌≡◌, ◌≤◌, List, [], ◌∷◌, ◌++◌, take, drop, Option, Some, None, true, ⊤}
use Rattle.rsm_paging.specs.Pages.{IsPageOf, first_page, matching, those_after}
use Rattle.rsm_paging.specs.declared.ask.Filter.{Filter}
use Rattle.rsm_paging.specs.declared.ask.Page.{Page}
use Rattle.rsm_paging.specs.declared.ask.Row.{Row}

-- A page that was asked for, and how the archive stood then: so many of all its rows had come, and so many of these were gone.
pub record Step : Type 0 where
  pub come : ℕ
  pub gone : ℕ
  pub max : ℕ
  pub page : Page

abbrev pub kept_of : List Row → (gone come : ℕ) → List Row
kept_of all gone come = drop gone (take come all)

-- a row stands among these
abbrev pub IsAmong : Row → List Row → Type 0
IsAmong row rows = (before : ℕ) × (later : List Row) × (drop before rows ≡ row ∷ later)

abbrev pub IsKept : Option Row → List Row → Type 0
IsKept None rows = ⊤
IsKept (Some row) rows = IsAmong row rows

-- those that were wanted
abbrev pub wanted_of : List Row → Filter → Option Row → (gone come : ℕ) → List Row
wanted_of all f after gone come = those_after after (matching f (kept_of all gone come))

-- the page after this row, which was still kept
pub record IsStep (all : List Row) (f : Filter) (after : Option Row) (s : Step) : Type 0 where
  pub kept : IsKept after (kept_of all s.gone s.come)
  pub page : IsPageOf (matching f (kept_of all s.gone s.come)) (wanted_of all f after s.gone s.come)
      (first_page s.max (wanted_of all f after s.gone s.come)) s.page

-- from this row on, up to a page that is complete
abbrev pub IsWalk : List Row → Filter → Option Row → Step → List Step → Type 0
IsWalk all f after s [] = IsStep all f after s × (s.page.complete ≡ true)
IsWalk all f after s (next ∷ more) =
    IsStep all f after s × (s.come ≤ next.come) × (front : List Row) × (last : Row)
    × (first_page s.max (wanted_of all f after s.gone s.come) ≡ front ++ last ∷ []) × IsWalk all f (Some last) next more

-- how many rows had come when the last page was asked for
abbrev pub come_last : Step → List Step → ℕ
come_last s [] = s.come
come_last s (next ∷ more) = come_last next more

-- the ids of all the pages
abbrev pub shown_by : Step → List Step → List ℕ
shown_by s [] = s.page.rows
shown_by s (next ∷ more) = s.page.rows ++ shown_by next more
