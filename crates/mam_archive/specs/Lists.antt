-- The ids of the rows of each peer.
use Rattle.std.specs.Prelude.{ℕ, ◌+◌, ◌≡◌, ◌≤◌, List, [], map, Bool, false, Option, Some, None, nat_eq}
use Rattle.std.specs.List.{AllByRecursion, filter}
use Rattle.std.specs.Map.{lookup}
use Rattle.hash_keys.specs.declared.key.HashKey.{HashKey}
use Rattle.jid_core.specs.Addresses.{Address}
use Rattle.rsm_paging.specs.Pages.{id_of}
use Rattle.rsm_paging.specs.declared.ask.Row.{Row}
use Rattle.mam_archive.specs.Archives.{Place}
use Rattle.mam_archive.specs.Peers.{face, key}
use Rattle.mam_archive.specs.declared.peers.Extent.{Extent}

pub record IdList : Type 0 where
  pub ids : List ℕ  -- the oldest first
  pub free : ℕ  -- how many ids more the memory holds that is taken
  pub until : ℕ  -- there is room for the rows up to this number
  pub mixed : Bool  -- whether rows of several peers may stand here

abbrev pub Entries : Type 0
Entries = List (ℕ × IdList)

abbrev pub held : Option IdList → IdList
held None = record { ids = []; free = 0; until = 0; mixed = false }
held (Some list) = list

abbrev pub list_at : ℕ → Entries → IdList
list_at k es = held (lookup (nat_eq k) es)

pub record IsBlank (made : ℕ) (list : IdList) : Type 0 where
  pub ids : list.ids ≡ []
  pub until : list.until ≤ made

-- at each other key there is the same
abbrev pub KeepsOthers : ℕ → Entries → Entries → Type 0
KeepsOthers k old new = (q : ℕ) → nat_eq k q ≡ false → list_at q new ≡ list_at q old

-- the rows whose peers have this key
abbrev pub rows_with : HashKey → Extent → ℕ → List Row → List Row
rows_with hash_key e k rows = filter (λ row. nat_eq k (key hash_key e row.peer)) rows

-- the rows are of one peer
abbrev pub AreOf : Extent → Address → List Row → Type 0
AreOf e a rows = AllByRecursion (λ row. face e row.peer ≡ a) rows

abbrev pub AreAlike : Extent → List Row → Type 0
AreAlike e rows = (a : Address) × AreOf e a rows

-- the lists are those of these rows, of so many that were made
pub record IsListed (hash_key : HashKey) (e : Extent) (rows : List Row) (made : ℕ) (es : Entries) : Type 0 where
  pub ids : (k : ℕ) → (list_at k es).ids ≡ map id_of (rows_with hash_key e k rows)
  pub room : (k : ℕ) → (list_at k es).until ≤ made + (list_at k es).free
  pub alike : (k : ℕ) → (list_at k es).mixed ≡ false → AreAlike e (rows_with hash_key e k rows)

-- the places that the lists hold
abbrev pub places : Entries → List Place
places es = map (λ e. record { key = e.0; until = e.1.until }) es
