-- The moments from which sessions are due, and moments in a tree. The tree lies in a list: below node i are the nodes
-- 2i and 2i + 1, and the second half of the list has the places.
use Rattle.std.specs.Prelude.{◌≡◌, ◌≢◌, ℕ, ◌<◌, ◌+◌, ◌*◌, ◌^◌, min, List, Option, Some, None, slice_index_or, drop, length}
use Rattle.session_table.specs.declared.life.Life.{Life}
use Rattle.session_table.specs.declared.life.Life.TheVariants.{Live, Over}

-- the moment from which a session is due; one that has ended is due from the first moment on
abbrev pub wake_of : Life → Option ℕ → Option ℕ
wake_of Live deadline = deadline
wake_of (Over cause) deadline = Some 0

abbrev pub earlier : Option ℕ → Option ℕ → Option ℕ
earlier None b = b
earlier (Some a) None = Some a
earlier (Some a) (Some b) = Some (min a b)

-- the moment at a node
abbrev pub node : List (Option ℕ) → ℕ → Option ℕ
node nodes i = slice_index_or nodes i None

-- a node has the earlier of the two moments below it
abbrev pub IsEarlier : List (Option ℕ) → ℕ → Type 0
IsEarlier nodes i = node nodes i ≡ earlier (node nodes (2 * i)) (node nodes (2 * i + 1))

-- each node has, but perhaps this one
abbrev pub IsTreeBut : ℕ → List (Option ℕ) → Type 0
IsTreeBut but nodes = (i : ℕ) → 0 < i → 2 * i + 1 < length nodes → i ≢ but → IsEarlier nodes i

-- each node has; the first one, which has no number, is no node
abbrev pub IsTree : List (Option ℕ) → Type 0
IsTree nodes = IsTreeBut 0 nodes

-- there are no nodes, or twice as many as two to this power
abbrev pub IsWide : List (Option ℕ) → ℕ → Type 0
IsWide nodes levels = 0 < length nodes → length nodes ≡ 2 * 2 ^ levels

-- the moments of the places
abbrev pub places_of : List (Option ℕ) → ℕ → List (Option ℕ)
places_of nodes levels = drop (2 ^ levels) nodes
