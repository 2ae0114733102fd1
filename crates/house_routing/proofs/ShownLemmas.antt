-- The rows that ids tell of, as they are shown.
use Rattle.std.proofs.Common.{◌≡◌, ◌≤◌, ℕ, zero, suc, List, [], ◌∷◌, ◌++◌, map, drop, length, Option, Some, None, refl, sym, ap, ◌∙◌, arith}
use Rattle.std.proofs.lemmas.List.{append-nil}
use Rattle.jid_core.specs.Addresses.{Address}
use Rattle.stanza_model.specs.declared.effect.Effect.{Effect}
use Rattle.stanza_model.specs.declared.here.Here.{Here}
use Rattle.rsm_paging.specs.Pages.{Follow, row_numbered}
use Rattle.rsm_paging.specs.declared.ask.Filter.{Filter}
use Rattle.rsm_paging.specs.declared.ask.Page.{Page}
use Rattle.rsm_paging.specs.declared.ask.PageAsk.{PageAsk}
use Rattle.rsm_paging.specs.declared.ask.Row.{Row}
use Rattle.archive_table.specs.Pages.{page_of, shown}
use Rattle.archive_table.proofs.ShownLemmas.{shown-named}
use Rattle.house_model.specs.Archives.{shown_to}

-- a row that is there is shown
abbrev pub shown_if : Here → Option Address → Option (List ℕ) → Option Row → List Effect
shown_if who from queryid None = []
shown_if who from queryid (Some row) = shown_to who from queryid row ∷ []

abbrev pub all_shown : Here → Option Address → Option (List ℕ) → List (Option Row) → List Effect
all_shown who from queryid [] = []
all_shown who from queryid (x ∷ more) = shown_if who from queryid x ++ all_shown who from queryid more

some_shown : (who : Here) (from : Option Address) (queryid : Option (List ℕ)) (rows : List Row)
    → all_shown who from queryid (map Some rows) ≡ map (shown_to who from queryid) rows
some_shown who from queryid [] = refl
some_shown who from queryid (row ∷ more) = ap (λ (es : List Effect). shown_to who from queryid row ∷ es) (some_shown who from queryid more)

-- those of the ids of a page are the page's rows
pub page_shown : (n : ℕ) (who : Here) (from : Option Address) (queryid : Option (List ℕ)) (rows : List Row) (f : Filter) (ask : PageAsk) → Follow n rows
    → all_shown who from queryid (map (λ id. row_numbered (Some id) rows) (page_of rows f ask).rows) ≡ map (shown_to who from queryid) (shown rows f ask)
page_shown n who from queryid rows f ask follow =
    ap (λ (xs : List (Option Row)). all_shown who from queryid xs) (shown-named n rows f ask follow) ∙ some_shown who from queryid (shown rows f ask)

past_end : (at : ℕ) (ids : List ℕ) → length ids ≤ at → drop at ids ≡ []
past_end zero [] low = refl
past_end (suc at) [] low = refl
past_end zero (id ∷ ids) low = absurd (omega (arith, low))
past_end (suc at) (id ∷ ids) low = past_end at ids (omega (arith, low))

-- once all ids of a page have been gone through
pub shown_done : (n : ℕ) (who : Here) (from : Option Address) (queryid : Option (List ℕ)) (rows : List Row) (f : Filter) (ask : PageAsk) (page : Page)
    → Follow n rows → page ≡ page_of rows f ask → (ids : List ℕ) (at : ℕ) → length ids ≤ at → (old new : List Effect)
    → new ++ all_shown who from queryid (map (λ id. row_numbered (Some id) rows) (drop at ids))
    ≡ old ++ all_shown who from queryid (map (λ id. row_numbered (Some id) rows) page.rows)
    → new ≡ old ++ map (shown_to who from queryid) (shown rows f ask)
shown_done n who from queryid rows f ask page follow is ids at low old new done =
    sym (append-nil new)
    ∙ (ap (λ (xs : List ℕ). new ++ all_shown who from queryid (map (λ id. row_numbered (Some id) rows) xs)) (sym (past_end at ids low))
    ∙ (done
    ∙ (ap (λ (p : Page). old ++ all_shown who from queryid (map (λ id. row_numbered (Some id) rows) p.rows)) is
    ∙ ap (λ (xs : List Effect). old ++ xs) (page_shown n who from queryid rows f ask follow))))
