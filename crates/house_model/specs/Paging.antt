-- Archives that are read page by page, while a history goes on (XEP-0313, 4, with XEP-0059, 2.2).
use Rattle.std.specs.Prelude.{ℕ, ◌≡◌, ◌≤◌, List, [], ◌∷◌, ◌++◌, take, drop, length, Option, Some, None, true, ⊤}
use Rattle.sm_resume.specs.Spelling.{number_of}
use Rattle.rsm_paging.specs.Pages.{is_known, matching}
use Rattle.rsm_paging.specs.declared.ask.Filter.{Filter}
use Rattle.rsm_paging.specs.declared.ask.PageAsk.{PageAsk}
use Rattle.rsm_paging.specs.declared.ask.Row.{Row}
use Rattle.archive_table.specs.Archives.{Rows, Said, numbered}
use Rattle.archive_table.specs.Pages.{page_of, shown}
use Rattle.house_model.specs.Archiving.{keeps_from, spoken_in}
use Rattle.house_model.specs.Histories.{Turn, after}
use Rattle.house_model.specs.RoomFits.{IsThere}
use Rattle.house_model.specs.States.{State, World}
use Rattle.house_model.specs.Stays.{logs_of}
use Rattle.house_model.specs.Traffic.{Traffic}

-- Whose archive is read: a user's, or that of a room.
pub data Whose : Type 0 where
  User : (user : List ℕ) → Whose
  Room : (n : ℕ) → Whose

abbrev pub rows_of : World Traffic → Whose → Rows
rows_of world (User user) = world.archives.users user
rows_of world (Room n) = world.archives.rooms n

-- a room has its archive as long as it is there
abbrev pub HasArchive : World Traffic → Whose → Type 0
HasArchive world (User user) = ⊤
HasArchive world (Room n) = IsThere world.rooms n

-- what was ever said there
abbrev pub said_in : State → List Turn → Whose → List Said
said_in o h (User user) = keeps_from o h user
said_in o h (Room n) = spoken_in ((logs_of o h).order n)

-- A page that was asked for when so many turns of a history had come: of so many rows at most, after the row of this id.
pub record Asked : Type 0 where
  pub turns : ℕ
  pub max : ℕ
  pub after : Option (List ℕ)

abbrev pub ask_of : Asked → PageAsk
ask_of a = record { max = a.max; after = a.after; before = None }

abbrev pub before_it : List Turn → Asked → List Turn
before_it h a = take a.turns h

-- the rows that were kept then
abbrev pub kept_then : State → List Turn → Whose → Asked → List Row
kept_then o h whose a = (rows_of (after o (before_it h a)).world whose).kept

-- those of the page
abbrev pub told : State → List Turn → Whose → Filter → Asked → List Row
told o h whose f a = shown (kept_then o h whose a) f (ask_of a)

-- It is answered by a page, not by an error.
pub record IsAnswered (o : State) (h : List Turn) (whose : Whose) (a : Asked) : Type 0 where
  pub there : HasArchive (after o (before_it h a)).world whose
  pub known : is_known (kept_then o h whose a) a.after ≡ true

-- it has all the rows that were wanted
abbrev pub IsComplete : State → List Turn → Whose → Filter → Asked → Type 0
IsComplete o h whose f a = (page_of (kept_then o h whose a) f (ask_of a)).complete ≡ true

-- a page is asked for later, by the id of the last row of the one before
pub record IsNext (o : State) (h : List Turn) (whose : Whose) (f : Filter) (a next : Asked) : Type 0 where
  pub later : a.turns ≤ next.turns
  pub front : List Row
  pub last : Row
  pub ends : told o h whose f a ≡ front ++ last ∷ []
  pub id : List ℕ
  pub named : number_of id ≡ Some last.id
  pub after : next.after ≡ Some id

-- pages that follow each other, up to a complete one
abbrev pub Follow : State → List Turn → Whose → Filter → Asked → List Asked → Type 0
Follow o h whose f a [] = IsAnswered o h whose a × IsComplete o h whose f a
Follow o h whose f a (next ∷ more) = IsAnswered o h whose a × IsNext o h whose f a next × Follow o h whose f next more

-- the rows of all of them
abbrev pub all_told : State → List Turn → Whose → Filter → Asked → List Asked → List Row
all_told o h whose f a [] = told o h whose f a
all_told o h whose f a (next ∷ more) = told o h whose f a ++ all_told o h whose f next more

abbrev pub last_asked : Asked → List Asked → Asked
last_asked a [] = a
last_asked a (next ∷ more) = last_asked next more

-- what was said between two of them, as rows
abbrev pub come_between : State → List Turn → Whose → Asked → Asked → List Row
come_between o h whose a b = drop (length (said_in o (before_it h a) whose)) (numbered 1 0 (said_in o (before_it h b) whose))

-- Where the first of them is asked for from the beginning, their rows are, each once and in order, those that were asked for of all that were kept
-- then and that came until the last was asked for; also where rows came and went between.
abbrev pub PagesTellAll : State → List Turn → Type 0
PagesTellAll o h =
    (whose : Whose) (f : Filter) (first : Asked) (more : List Asked) → first.after ≡ None → Follow o h whose f first more
    → all_told o h whose f first more ≡ matching f (kept_then o h whose first ++ come_between o h whose first (last_asked first more))
