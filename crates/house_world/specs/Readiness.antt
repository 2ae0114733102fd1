-- Whether there is room for what effects queue.
use Rattle.std.specs.Prelude.{ℕ, ◌+◌, ◌<◌, ◌≤◌, ◌^◌, ◌==◌, List, [], ◌∷◌, length, count_by, ⊤, if◌then◌else◌}
use Rattle.std.specs.List.{AllByRecursion}
use Rattle.stanza_model.specs.declared.effect.Effect.{Effect}
use Rattle.stanza_model.specs.declared.effect.Change.TheVariants.{RoomRow}
use Rattle.stanza_model.specs.declared.effect.Effect.TheVariants.{Queue, Keep, Set}
use Rattle.archive_table.specs.Archives.{Archives}
use Rattle.archive_table.specs.Tables as archive
use Rattle.contact_table.specs.Tables as book
use Rattle.session_table.specs.Tables.{TableRecord}
use Rattle.house_model.specs.Archiving.{NoRowAfter, rows_of_room, rows_of_user}
use Rattle.house_world.specs.Marks.{is_of_users}
use Rattle.house_world.specs.Wholes.{HasSpare}

abbrev pub needed_by : ℕ → Effect → ℕ
needed_by s (Queue r to rest origin) = if s == r then 1 else 0
needed_by s e = 0

-- how many stanzas effects queue for session s
abbrev pub needed : ℕ → List Effect → ℕ
needed s [] = 0
needed s (e ∷ more) = needed_by s e + needed s more

-- the session of each stanza that they queue
abbrev pub queued_for : List Effect → List ℕ
queued_for [] = []
queued_for (Queue s to rest origin ∷ more) = s ∷ queued_for more
queued_for (e ∷ more) = queued_for more

-- how often a number is in a list
abbrev pub times : ℕ → List ℕ → ℕ
times s numbers = count_by (λ r. s == r) numbers

-- there is room for all that they queue
abbrev pub AreReady : List Effect → TableRecord → Type 0
AreReady effects t = (s : ℕ) → HasSpare (needed s effects) s t

-- how many changes of a user are noted

abbrev pub notes_by : (user : List ℕ) → Effect → ℕ
notes_by user (Set change) = book.needed user change
notes_by user e = 0

abbrev pub notes : (user : List ℕ) → List Effect → ℕ
notes user [] = 0
notes user (e ∷ more) = notes_by user e + notes user more

-- how many changes are noted, whoever's
abbrev pub changes_in : List Effect → ℕ
changes_in [] = 0
changes_in (Set change ∷ more) = (if is_of_users change then 1 else 0) + changes_in more
changes_in (e ∷ more) = changes_in more

-- there is room for all of them
abbrev pub AreNotable : List Effect → book.BookRecord → Type 0
AreNotable effects k = (user : List ℕ) → notes user effects ≤ book.spare user k

-- Whether there is memory for the rows that effects add to archives.

-- that of one effect has it for as many rows as all of them add to its archive
abbrev pub HasPlaces : List Effect → archive.TableRecord → Effect → Type 0
HasPlaces es t (Keep user peer text moment) = length (rows_of_user user es) ≤ archive.user_spare user peer t
HasPlaces es t (Set (RoomRow n peer text moment)) = length (rows_of_room n es) ≤ archive.room_spare n peer t
HasPlaces es t e = ⊤

abbrev pub HavePlaces : List Effect → archive.TableRecord → Type 0
HavePlaces es t = AllByRecursion (HasPlaces es t) es

-- how long the texts are that they add

abbrev pub added_by : Effect → ℕ
added_by (Keep user peer text moment) = length text
added_by (Set (RoomRow n peer text moment)) = length text
added_by e = 0

abbrev pub added : List Effect → ℕ
added [] = 0
added (e ∷ more) = added_by e + added more

-- so many rows can be numbered, behind those that were made, and all bytes be counted
pub record IsCounted (made rows bytes : ℕ) : Type 0 where
  pub numbered : made + rows < 2 ^ 64
  pub counted : bytes < 2 ^ 64

abbrev pub HasNumbers : List Effect → Archives → Effect → Type 0
HasNumbers es a (Keep user peer text moment) = IsCounted (a.users user).made (length (rows_of_user user es)) (a.bytes + added es)
HasNumbers es a (Set (RoomRow n peer text moment)) = IsCounted (a.rooms n).made (length (rows_of_room n es)) (a.bytes + added es)
HasNumbers es a e = ⊤

-- effects can be filed, one after another
pub record AreFilable (es : List Effect) (t : archive.TableRecord) : Type 0 where
  pub places : HavePlaces es t
  pub numbers : AllByRecursion (HasNumbers es (archive.archives_of t)) es
  pub ends : NoRowAfter es
