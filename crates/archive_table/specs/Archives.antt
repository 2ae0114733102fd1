-- The archives of users and of rooms (XEP-0313, 2).
use Rattle.std.specs.Prelude.{ℕ, ◌+◌, ◌-◌, ◌==◌, nat_lt, min, max, List, [], ◌∷◌, ◌++◌, take, length, bytes_eq, if◌then◌else◌}
use Rattle.jid_core.specs.Addresses.{Address}
use Rattle.rsm_paging.specs.declared.ask.Row.{Row}
use Rattle.mam_archive.specs.Archives.{last_kept, last_moment, most_kept, stamp_after, texts_length}
use Rattle.archive_table.specs.declared.filing.Filing.{Filing}
use Rattle.archive_table.specs.declared.filing.Filing.TheVariants.{OfUser, OfRoom, NoRoom}

-- An archive by all that was ever said.

-- a message that is kept: with whom it was exchanged, or who said it; its text; and when
pub record Said : Type 0 where
  pub peer : Address
  pub text : List ℕ
  pub moment : ℕ

-- the rows that are kept, the oldest first, and how many there ever were
pub record Rows : Type 0 where
  pub kept : List Row
  pub made : ℕ

-- what is past the year 9999 counts as its end, and no stamp is below an earlier one
abbrev pub stamp_at : (moment earlier : ℕ) → ℕ
stamp_at moment earlier = max (min moment last_moment) earlier

-- numbered from n on
abbrev pub numbered : (n earlier : ℕ) → List Said → List Row
numbered n earlier [] = []
numbered n earlier (x ∷ more) =
    record { id = n; stamp = stamp_at x.moment earlier; peer = x.peer; text = x.text } ∷ numbered (n + 1) (stamp_at x.moment earlier) more

-- the last 10,000 of all, numbered from 1
abbrev pub archive_of : List Said → Rows
archive_of xs = record { kept = last_kept (numbered 1 0 xs); made = length xs }

-- An archive, row by row.

abbrev pub no_rows : Rows
no_rows = record { kept = []; made = 0 }

abbrev pub row_for : Rows → (peer : Address) → (text : List ℕ) → (moment : ℕ) → Row
row_for x peer text moment = record { id = x.made + 1; stamp = stamp_after x.kept moment; peer = peer; text = text }

abbrev pub with_row : (peer : Address) → (text : List ℕ) → (moment : ℕ) → Rows → Rows
with_row peer text moment x = record { kept = last_kept (x.kept ++ row_for x peer text moment ∷ []); made = x.made + 1 }

-- how long the text is that the next row displaces
abbrev pub displaced : Rows → ℕ
displaced x = if nat_lt (length x.kept) most_kept then 0 else texts_length (take 1 x.kept)

-- All archives.

-- those of users, by the local parts of their addresses; those of rooms, by their numbers; and how long all texts are that are kept
pub record Archives : Type 0 where
  pub users : List ℕ → Rows
  pub rooms : ℕ → Rows
  pub bytes : ℕ

abbrev pub no_archives : Archives
no_archives = record { users = λ user. no_rows; rooms = λ n. no_rows; bytes = 0 }

abbrev pub put_user : List ℕ → Rows → (List ℕ → Rows) → List ℕ → Rows
put_user user x of other = if bytes_eq other user then x else of other

abbrev pub put_room : ℕ → Rows → (ℕ → Rows) → ℕ → Rows
put_room n x of other = if other == n then x else of other

-- with one text more, but without the one that it displaces
abbrev pub bytes_with : (text : List ℕ) → Rows → (bytes : ℕ) → ℕ
bytes_with text x bytes = (bytes + length text) - displaced x

-- what becomes of them: a row more of a user or of a room, or the archive of a room is there no more
abbrev pub filed : Filing → Archives → Archives
filed (OfUser user peer text moment) a = record a {
  users = put_user user (with_row peer text moment (a.users user)) a.users;
  bytes = bytes_with text (a.users user) a.bytes;
}
filed (OfRoom n peer text moment) a = record a {
  rooms = put_room n (with_row peer text moment (a.rooms n)) a.rooms;
  bytes = bytes_with text (a.rooms n) a.bytes;
}
filed (NoRoom n) a = record a { rooms = put_room n no_rows a.rooms; bytes = a.bytes - texts_length (a.rooms n).kept }

-- The limit.

-- so many bytes of text are kept in all, at most
abbrev pub most_bytes : ℕ
most_bytes = 1073741824

-- how many more there is room for, once so many are gone
abbrev pub free_beside : (gone : ℕ) → Archives → ℕ
free_beside gone a = (most_bytes + gone) - a.bytes
