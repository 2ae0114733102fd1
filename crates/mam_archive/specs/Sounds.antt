-- What stands in an archive.
use Rattle.std.specs.Prelude.{ℕ, ◌+◌, ◌^◌, ◌≡◌, ◌<◌, ◌≤◌, List, [], ◌∷◌, drop, length, ⊤}
use Rattle.hash_keys.specs.declared.key.HashKey.{HashKey}
use Rattle.rsm_paging.specs.Pages.{StampsRise}
use Rattle.rsm_paging.specs.declared.ask.Row.{Row}
use Rattle.mam_archive.specs.Archives.{most_kept, texts_length}
use Rattle.mam_archive.specs.Lists.{IsListed}
use Rattle.mam_archive.specs.declared.index.Index.{Index}
use Rattle.mam_archive.specs.declared.peers.Extent.TheVariants.{Bare, Full}

-- the ids follow each other, from this one on, and each text has a length that a machine can tell
abbrev pub AreNumbered : ℕ → List Row → Type 0
AreNumbered n [] = ⊤
AreNumbered n (row ∷ more) = (row.id ≡ n) × (length row.text < 2 ^ 64) × AreNumbered (n + 1) more

-- of the rows that are there some at the front are gone; the others are kept
pub record IsSound (rows : List Row) (gone made bytes : ℕ) : Type 0 where
  pub there : gone ≤ length rows
  pub few : length (drop gone rows) ≤ most_kept
  pub last : length (drop gone rows) ≤ made
  pub first : (n : ℕ) × (n + length (drop gone rows) ≡ made + 1) × AreNumbered n (drop gone rows)
  pub stamps : StampsRise 0 (drop gone rows)
  pub texts : bytes ≡ texts_length (drop gone rows)

-- the index is that of these rows, of so many that were made
pub record IsIndexed (hash_key : HashKey) (rows : List Row) (made : ℕ) (index : Index) : Type 0 where
  pub bare : IsListed hash_key Bare rows made index.bare.entries
  pub full : IsListed hash_key Full rows made index.full.entries

pub record IsWhole (hash_key : HashKey) (rows : List Row) (gone made bytes : ℕ) (index : Index) : Type 0 where
  pub sound : IsSound rows gone made bytes
  pub indexed : IsIndexed hash_key (drop gone rows) made index
