-- Pages that are asked for while a history goes on, as pages of all rows of the archive.
use Rattle.std.proofs.Common.{◌≡◌, ◌≤◌, ◌==◌, ℕ, List, [], ◌∷◌, ◌++◌, take, drop, map, length, refl, sym, ap, ap₂, ◌∙◌, subst, arith}
use Rattle.std.proofs.Common.{Option, Some, None, is_some, true}
use Rattle.std.specs.List.{AllByRecursion}
use Rattle.rsm_paging.proofs.ListedLemmas.{all-found, follow-rises}
use Rattle.rsm_paging.proofs.WalkLemmas.{walk-shows}
use Rattle.rsm_paging.specs.Pages.{first_page, id_of, index_of, is_known, matching, fits, row_named, row_numbered, those_after}
use Rattle.rsm_paging.specs.Walks.{IsAmong, IsKept, IsStep, IsWalk, Step, come_last, kept_of, shown_by, wanted_of}
use Rattle.rsm_paging.specs.declared.ask.Filter.{Filter}
use Rattle.rsm_paging.specs.declared.ask.PageAsk.{PageAsk}
use Rattle.rsm_paging.specs.declared.ask.Row.{Row}
use Rattle.mam_archive.specs.Archives.{last_kept}
use Rattle.archive_table.specs.Archives.{Rows, Said, numbered}
use Rattle.archive_table.specs.Pages.{page_of, shown, wanted}
use Rattle.house_model.specs.Histories.{IsOpening, Turn, after}
use Rattle.house_model.specs.Paging.{Asked, Follow, HasArchive, IsAnswered, IsNext, PagesTellAll, Room, User, Whose, all_told, ask_of, before_it, come_between}
use Rattle.house_model.specs.Paging.{kept_then, last_asked, rows_of, said_in, told}
use Rattle.house_model.specs.States.{State}
use Rattle.house_model.proofs.ArchiveTurns.{archives_are_kept}
use Rattle.house_model.proofs.Founds.{append_all, filter_all}
use Rattle.house_model.proofs.PageRows.{IsFound, Stands, all_among, first_rows, gone_of, ids_append, kept_among, kept_and_come, last_of_all}
use Rattle.house_model.proofs.PageRows.{numbered_follow, said_more, same_row, same_rows, stands}
use Rattle.house_model.proofs.PageTurns.{said_at_last, said_by_then}
use Rattle.house_model.proofs.RoomCases.{drop_all}
use Rattle.house_model.proofs.ShownRows.{shown-all, take-all}

-- A page after the row of an id, or from the beginning.

abbrev row_after : List Row → Option (List ℕ) → Option Row
row_after rows None = None
row_after rows (Some id) = row_named id rows

abbrev asks : (max : ℕ) → Option (List ℕ) → PageAsk
asks max after = record { max = max; after = after; before = None }

wanted_is : (rows : List Row) (f : Filter) (max : ℕ) (after : Option (List ℕ))
    → wanted rows f (asks max after) ≡ those_after (row_after rows after) (matching f rows)
wanted_is rows f max None = refl
wanted_is rows f max (Some id) = refl

shown_is : (rows : List Row) (f : Filter) (max : ℕ) (after : Option (List ℕ))
    → shown rows f (asks max after) ≡ first_page max (those_after (row_after rows after) (matching f rows))
shown_is rows f max None = refl
shown_is rows f max (Some id) = refl

-- rows that are some of all, and the row after which a page is asked for
module _ (all : List Row) (f : Filter) (max gone come : ℕ) (after : Option (List ℕ)) (rows : List Row) (row : Option Row)
    (same : rows ≡ kept_of all gone come) (named : row_after rows after ≡ row) where
  those : those_after (row_after rows after) (matching f rows) ≡ wanted_of all f row gone come
  those = ap₂ (λ (o : Option Row) (l : List Row). those_after o (matching f l)) named same

  page_wanted : wanted rows f (asks max after) ≡ wanted_of all f row gone come
  page_wanted = wanted_is rows f max after ∙ those

  page_shown : shown rows f (asks max after) ≡ first_page max (wanted_of all f row gone come)
  page_shown = shown_is rows f max after ∙ ap (first_page max) those

  page_step : IsKept row (kept_of all gone come)
      → IsStep all f row (record { come = come; gone = gone; max = max; page = page_of rows f (asks max after) })
  page_step is = record {
    kept = is;
    page = record {
      rows = ap (map id_of) page_shown;
      index = ap₂ index_of (ap (matching f) same) page_shown;
      count = ap (λ (l : List Row). length (matching f l)) same;
      complete = ap₂ (λ (a b : List Row). length a == length b) page_shown page_wanted;
    };
  }

-- The rows that are kept after a history.
archive_rows : (o : State) → IsOpening o → (g : List Turn) (whose : Whose) → HasArchive (after o g).world whose
    → (rows_of (after o g).world whose).kept ≡ last_kept (numbered 1 0 (said_in o g whose))
archive_rows o starts g (User user) has = ap (λ (r : Rows). r.kept) ((archives_are_kept o g starts).users user)
archive_rows o starts g (Room n) has = ap (λ (r : Rows). r.kept) ((archives_are_kept o g starts).rooms n has)

-- The pages of a history.
module _ (o : State) (h : List Turn) (whose : Whose) (f : Filter) (starts : IsOpening o) where
  abbrev said : Asked → List Said
  said a = said_in o (before_it h a) whose

  abbrev come_at : Asked → ℕ
  come_at a = length (said a)

  abbrev gone_at : Asked → ℕ
  gone_at a = gone_of (said a)

  -- all rows that there ever were
  abbrev all : List Row
  all = numbered 1 0 (said_in o h whose)

  abbrev step_at : Asked → Step
  step_at a = record { come = come_at a; gone = gone_at a; max = a.max; page = page_of (kept_then o h whose a) f (ask_of a) }

  found : AllByRecursion (IsFound all) all
  found = all-found 1 all (numbered_follow (said_in o h whose) 1 0)

  kept_found : (gone come : ℕ) → AllByRecursion (IsFound all) (kept_of all gone come)
  kept_found gone come = drop_all (IsFound all) gone (take come all) (take-all (IsFound all) come all found)

  kept_is : (a : Asked) → IsAnswered o h whose a → kept_then o h whose a ≡ kept_of all (gone_at a) (come_at a)
  kept_is a answered =
      archive_rows o starts (before_it h a) whose answered.there ∙ kept_among (said a) (said_in o h whose) (said_at_last o h a.turns whose)

  told_found : (a : Asked) → IsAnswered o h whose a → AllByRecursion (IsFound all) (told o h whose f a)
  told_found a answered =
      shown-all (IsFound all) (kept_then o h whose a) f (ask_of a)
      (subst (AllByRecursion (IsFound all)) (sym (kept_is a answered)) (kept_found (gone_at a) (come_at a)))

  all_told_found : (a : Asked) (more : List Asked) → Follow o h whose f a more → AllByRecursion (IsFound all) (all_told o h whose f a more)
  all_told_found a [] is = told_found a is.0
  all_told_found a (next ∷ more) is =
      append_all (IsFound all) (told o h whose f a) (all_told o h whose f next more) (told_found a is.0) (all_told_found next more is.2)

  answered : (a : Asked) (more : List Asked) → Follow o h whose f a more → IsAnswered o h whose a
  answered a [] is = is.0
  answered a (next ∷ more) is = is.0

  -- the row after which the next page is asked for is the last one that was told, and it was kept then
  next_row : (a next : Asked) → IsAnswered o h whose a → IsAnswered o h whose next → (is : IsNext o h whose f a next)
      → (row_after (kept_then o h whose next) next.after ≡ Some is.last) × IsAmong is.last (kept_of all (gone_at next) (come_at next))
  next_row a next one two is =
      let rows : List Row = kept_then o h whose next in
      let here : List Row = kept_of all (gone_at next) (come_at next) in
      let number : row_named is.id rows ≡ row_numbered (Some is.last.id) rows = ap (λ (n : Option ℕ). row_numbered n rows) is.named in
      let known : is_some (row_numbered (Some is.last.id) rows) ≡ true =
      subst (λ (r : Option Row). is_some r ≡ true) number (subst (λ (id : Option (List ℕ)). is_known rows id ≡ true) is.after two.known) in
      let it : Stands is.last.id rows = stands is.last.id rows known in
      let among : IsAmong it.row here = subst (IsAmong it.row) (kept_is next two) it.among in
      let mine : IsFound all it.row = all_among (IsFound all) it.row here among (kept_found (gone_at next) (come_at next)) in
      let last : IsFound all is.last =
      last_of_all (IsFound all) is.front is.last (subst (AllByRecursion (IsFound all)) is.ends (told_found a one)) in
      let same : it.row ≡ is.last = same_row all it.row is.last mine last it.is in (
        ap (row_after rows) is.after ∙ (number ∙ (it.found ∙ ap (λ (r : Row). Some r) same)),
        subst (λ (r : Row). IsAmong r here) same among,
      )

  walks : (a : Asked) (more : List Asked) (row : Option Row) → Follow o h whose f a more
      → row_after (kept_then o h whose a) a.after ≡ row → IsKept row (kept_of all (gone_at a) (come_at a))
      → IsWalk all f row (step_at a) (map step_at more)
  walks a [] row is named kept =
      (page_step all f a.max (gone_at a) (come_at a) a.after (kept_then o h whose a) row (kept_is a is.0) named kept, is.1)
  walks a (next ∷ more) row is named kept =
      let later = next_row a next is.0 (answered next more is.2) is.1 in
      let shows = page_shown all f a.max (gone_at a) (come_at a) a.after (kept_then o h whose a) row (kept_is a is.0) named in (
        page_step all f a.max (gone_at a) (come_at a) a.after (kept_then o h whose a) row (kept_is a is.0) named kept,
        said_more (said a) (said next) (said_by_then o h a.turns next.turns whose is.1.later),
        is.1.front,
        is.1.last,
        sym shows ∙ is.1.ends,
        walks next more (Some is.1.last) is.2 later.0 later.1,
      )

  -- What they tell.

  ids_told : (a : Asked) (more : List Asked) → map id_of (all_told o h whose f a more) ≡ shown_by (step_at a) (map step_at more)
  ids_told a [] = refl
  ids_told a (next ∷ more) =
      ids_append (told o h whose f a) (all_told o h whose f next more)
      ∙ ap (λ (l : List ℕ). map id_of (told o h whose f a) ++ l) (ids_told next more)

  come_same : (a : Asked) (more : List Asked) → come_last (step_at a) (map step_at more) ≡ come_at (last_asked a more)
  come_same a [] = refl
  come_same a (next ∷ more) = come_same next more

  in_time : (a : Asked) (more : List Asked) → Follow o h whose f a more → a.turns ≤ (last_asked a more).turns
  in_time a [] is = omega arith
  in_time a (next ∷ more) is =
      let one : a.turns ≤ next.turns = is.1.later in
      let rest : next.turns ≤ (last_asked next more).turns = in_time next more is.2 in
      omega (arith, one, rest)

  whole : (first : Asked) (more : List Asked) → Follow o h whose f first more
      → kept_of all (gone_at first) (come_last (step_at first) (map step_at more))
      ≡ kept_then o h whose first ++ come_between o h whose first (last_asked first more)
  whole first more is =
      let last : Asked = last_asked first more in
      let gone : ℕ = gone_at first in
      ap (λ (n : ℕ). drop gone (take n all)) (come_same first more)
      ∙ (ap (drop gone) (first_rows (said last) (said_in o h whose) (said_at_last o h last.turns whose))
      ∙ (kept_and_come (said first) (said last) (said_by_then o h first.turns last.turns whose (in_time first more is))
      ∙ ap (λ (l : List Row). l ++ come_between o h whose first last)
      (sym (archive_rows o starts (before_it h first) whose (answered first more is).there))))

  tells : (first : Asked) (more : List Asked) → first.after ≡ None → Follow o h whose f first more
      → all_told o h whose f first more ≡ matching f (kept_then o h whose first ++ come_between o h whose first (last_asked first more))
  tells first more none is =
      let come : ℕ = come_last (step_at first) (map step_at more) in
      let shown : List Row = matching f (kept_of all (gone_at first) come) in
      let ids : map id_of (all_told o h whose f first more) ≡ map id_of shown =
      ids_told first more
      ∙ walk-shows all (follow-rises 1 all (numbered_follow (said_in o h whose) 1 0)) f None (step_at first) (map step_at more)
      (walks first more None is (ap (row_after (kept_then o h whose first)) none) tt) in
      same_rows all (all_told o h whose f first more) shown (all_told_found first more is)
      (filter_all (IsFound all) (fits f) (kept_of all (gone_at first) come) (kept_found (gone_at first) come)) ids
      ∙ ap (matching f) (whole first more is)

pub pages_tell_all : (o : State) (h : List Turn) → IsOpening o → PagesTellAll o h
pages_tell_all o h starts whose f first more none is = tells o h whose f starts first more none is
