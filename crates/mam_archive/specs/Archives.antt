-- An archive of messages (XEP-0313, 2).
use Rattle.std.specs.Prelude.{ℕ, ◌+◌, ◌-◌, nat_eq, nat_lt, min, max, List, [], ◌∷◌, ◌++◌, drop, take, length, slice_get, Option, Some, None, if◌then◌else◌}
use Rattle.hash_keys.specs.declared.key.HashKey.{HashKey}
use Rattle.jid_core.specs.Addresses.{Address}
use Rattle.rsm_paging.specs.declared.ask.Row.{Row}
use Rattle.mam_archive.specs.Peers.{key}
use Rattle.mam_archive.specs.declared.peers.Extent.TheVariants.{Bare, Full}

-- the index has places for the rows up to this number whose peers have this hash
pub record Place : Type 0 where
  pub key : ℕ
  pub until : ℕ

pub record Archive : Type 0 where
  pub kept : List Row  -- the rows that are kept, the oldest first
  pub made : ℕ  -- how many rows were ever added
  pub spare : ℕ  -- how many rows more the memory holds that is taken
  pub hash_key : HashKey  -- by which peers are hashed
  pub bare : List Place  -- the places that the index of bare peers holds
  pub full : List Place  -- and those of the index of full peers

-- so many rows are kept, the last ones
abbrev pub most_kept : ℕ
most_kept = 10000

abbrev pub last_kept : List Row → List Row
last_kept rows = drop (length rows - most_kept) rows

abbrev pub stamp_of : Option Row → ℕ
stamp_of None = 0
stamp_of (Some row) = row.stamp

-- the stamp of the last row, and before any row the beginning of 1970
abbrev pub last_stamp : List Row → ℕ
last_stamp rows = stamp_of (slice_get rows (length rows - 1))

-- the end of the year 9999, in milliseconds since 1970; what is later counts as that
abbrev pub last_moment : ℕ
last_moment = 253402300799999

-- stamps never fall
abbrev pub stamp_after : List Row → (moment : ℕ) → ℕ
stamp_after rows moment = max (min moment last_moment) (last_stamp rows)

-- rows are numbered from 1 on
abbrev pub new_row : Archive → Address → (text : List ℕ) → (moment : ℕ) → Row
new_row a peer text moment = record { id = a.made + 1; stamp = stamp_after a.kept moment; peer = peer; text = text }

abbrev pub kept_with : Archive → Row → List Row
kept_with a row = last_kept (a.kept ++ row ∷ [])

-- how long the texts are that are kept
abbrev pub texts_length : List Row → ℕ
texts_length [] = 0
texts_length (row ∷ more) = length row.text + texts_length more

-- Room in the index.

abbrev pub until_at : ℕ → List Place → ℕ
until_at k [] = 0
until_at k (place ∷ more) = if nat_eq k place.key then place.until else until_at k more

-- how many rows more of a peer have their places in the index
abbrev pub room : Address → Archive → ℕ
room peer a = min (until_at (key a.hash_key Bare peer) a.bare) (until_at (key a.hash_key Full peer) a.full) - a.made

-- how long the text is that the next row displaces
abbrev pub freed : Archive → ℕ
freed a = if nat_lt (length a.kept) most_kept then 0 else texts_length (take 1 a.kept)
