-- What contracts see of the table of archives.
use Rattle.std.specs.Prelude.{ℕ, ◌+◌, ◌<◌, nat_eq, min, List, []}
use Rattle.std.specs.Prelude.{◌∷◌, length, bytes_eq, Bool, false, Option, Some, None, ⊤, if◌then◌else◌}
use Rattle.jid_core.specs.Addresses.{Address}
use Rattle.mam_archive.specs.Archives.{Archive, room, texts_length}
use Rattle.archive_table.specs.Archives.{Archives, Rows, no_rows}
use Rattle.archive_table.specs.declared.filing.Filing.{Filing}
use Rattle.archive_table.specs.declared.filing.Filing.TheVariants.{OfUser, OfRoom, NoRoom}

pub record UserArchive : Type 0 where
  pub user : List ℕ
  pub archive : Archive

pub record RoomArchive : Type 0 where
  pub room : ℕ
  pub archive : Archive

-- those that have an archive, with or without rows
pub record TableRecord : Type 0 where
  pub users : List UserArchive
  pub rooms : List RoomArchive
  pub bytes : ℕ

abbrev pub user_archive : List ℕ → List UserArchive → Option Archive
user_archive user [] = None
user_archive user (x ∷ more) = if bytes_eq user x.user then Some x.archive else user_archive user more

abbrev pub room_archive : ℕ → List RoomArchive → Option Archive
room_archive n [] = None
room_archive n (x ∷ more) = if nat_eq n x.room then Some x.archive else room_archive n more

abbrev pub rows_of : Option Archive → Rows
rows_of None = no_rows
rows_of (Some a) = record { kept = a.kept; made = a.made }

-- what the definitions see of it
abbrev pub archives_of : TableRecord → Archives
archives_of t = record {
  users = λ user. rows_of (user_archive user t.users);
  rooms = λ n. rows_of (room_archive n t.rooms);
  bytes = t.bytes;
}

-- how long all texts are

abbrev pub user_texts : List UserArchive → ℕ
user_texts [] = 0
user_texts (x ∷ more) = texts_length x.archive.kept + user_texts more

abbrev pub room_texts : List RoomArchive → ℕ
room_texts [] = 0
room_texts (x ∷ more) = texts_length x.archive.kept + room_texts more

-- Memory.

-- how many rows more of a peer there is memory for
abbrev pub spare_in : Option Archive → Address → ℕ
spare_in None peer = 0
spare_in (Some a) peer = min a.spare (room peer a)

abbrev pub user_spare : (user : List ℕ) → (peer : Address) → TableRecord → ℕ
user_spare user peer t = spare_in (user_archive user t.users) peer

abbrev pub room_spare : (n : ℕ) → (peer : Address) → TableRecord → ℕ
room_spare n peer t = spare_in (room_archive n t.rooms) peer

-- there is memory for a filing, and numbers for its row and its bytes
abbrev pub IsReady : Filing → TableRecord → Type 0
IsReady (OfUser user peer text moment) t = 0 < user_spare user peer t
IsReady (OfRoom n peer text moment) t = 0 < room_spare n peer t
IsReady (NoRoom n) t = ⊤

abbrev pub made_before : Filing → Archives → ℕ
made_before (OfUser user peer text moment) a = (a.users user).made
made_before (OfRoom n peer text moment) a = (a.rooms n).made
made_before (NoRoom n) a = 0

abbrev pub text_length : Filing → ℕ
text_length (OfUser user peer text moment) = length text
text_length (OfRoom n peer text moment) = length text
text_length (NoRoom n) = 0

-- how many rows of a user it adds, and how many of a room

abbrev pub user_rows : List ℕ → Filing → ℕ
user_rows user (OfUser other peer text moment) = if bytes_eq user other then 1 else 0
user_rows user filing = 0

abbrev pub room_rows : ℕ → Filing → ℕ
room_rows n (OfRoom other peer text moment) = if nat_eq n other then 1 else 0
room_rows n filing = 0

-- whether it takes a room's archive away
abbrev pub ends : ℕ → Filing → Bool
ends n (NoRoom other) = nat_eq n other
ends n filing = false
