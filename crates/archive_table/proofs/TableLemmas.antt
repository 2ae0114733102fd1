-- What the table tells, once a part of it is changed.
use Rattle.std.proofs.Common.{◌≡◌, ℕ, ◌-◌, List, bytes_eq, nat_eq, if◌then◌else◌, ap, ◌∙◌}
use Rattle.jid_core.specs.Addresses.{Address}
use Rattle.mam_archive.specs.Archives.{texts_length}
use Rattle.archive_table.specs.Archives.{bytes_with, filed, no_rows, with_row}
use Rattle.archive_table.specs.Tables.{RoomArchive, TableRecord, UserArchive, archives_of, room_archive, rows_of, user_archive}
use Rattle.archive_table.specs.declared.filing.Filing.TheVariants.{OfUser, OfRoom, NoRoom}

abbrev table : List UserArchive → List RoomArchive → ℕ → TableRecord
table us rs bytes = record { users = us; rooms = rs; bytes = bytes }

module _ (us vs : List UserArchive) (rs ss : List RoomArchive) (bytes count : ℕ) (old : TableRecord) (was : table us rs bytes ≡ old) where
  pub users-same : ((u : List ℕ) → rows_of (user_archive u vs) ≡ rows_of (user_archive u us)) → archives_of (table vs rs bytes) ≡ archives_of old
  users-same rows =
      (λ i. record { users = λ u. rows u i; rooms = λ n. rows_of (room_archive n rs); bytes = bytes }) ∙ ap archives_of was

  pub rooms-same : ((n : ℕ) → rows_of (room_archive n ss) ≡ rows_of (room_archive n rs)) → archives_of (table us ss bytes) ≡ archives_of old
  rooms-same rows =
      (λ i. record { users = λ u. rows_of (user_archive u us); rooms = λ n. rows n i; bytes = bytes }) ∙ ap archives_of was

  pub user-filed : (user : List ℕ) (peer : Address) (text : List ℕ) (moment : ℕ)
      → ((u : List ℕ) → rows_of (user_archive u vs)
      ≡ (if bytes_eq u user then with_row peer text moment (rows_of (user_archive user us)) else rows_of (user_archive u us)))
      → count ≡ bytes_with text (rows_of (user_archive user us)) bytes
      → archives_of (table vs rs count) ≡ filed (OfUser user peer text moment) (archives_of old)
  user-filed user peer text moment rows bytes =
      (λ i. record { users = λ u. rows u i; rooms = λ n. rows_of (room_archive n rs); bytes = bytes i })
      ∙ ap (λ t. filed (OfUser user peer text moment) (archives_of t)) was

  pub room-filed : (room : ℕ) (peer : Address) (text : List ℕ) (moment : ℕ)
      → ((n : ℕ) → rows_of (room_archive n ss)
      ≡ (if nat_eq n room then with_row peer text moment (rows_of (room_archive room rs)) else rows_of (room_archive n rs)))
      → count ≡ bytes_with text (rows_of (room_archive room rs)) bytes
      → archives_of (table us ss count) ≡ filed (OfRoom room peer text moment) (archives_of old)
  room-filed room peer text moment rows bytes =
      (λ i. record { users = λ u. rows_of (user_archive u us); rooms = λ n. rows n i; bytes = bytes i })
      ∙ ap (λ t. filed (OfRoom room peer text moment) (archives_of t)) was

  pub room-ended : (room : ℕ)
      → ((n : ℕ) → rows_of (room_archive n ss) ≡ (if nat_eq n room then no_rows else rows_of (room_archive n rs)))
      → count ≡ bytes - texts_length (rows_of (room_archive room rs)).kept
      → archives_of (table us ss count) ≡ filed (NoRoom room) (archives_of old)
  room-ended room rows bytes =
      (λ i. record { users = λ u. rows_of (user_archive u us); rooms = λ n. rows n i; bytes = bytes i })
      ∙ ap (λ t. filed (NoRoom room) (archives_of t)) was
