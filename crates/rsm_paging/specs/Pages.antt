-- Which rows of an archive a request is answered with (XEP-0313, 4, and XEP-0059, 2).
use Rattle.std.specs.Prelude.{ℕ, ◌+◌, ◌==◌, nat_lt, nat_le, min, List, [], ◌∷◌, take, reverse, map, length, Bool, true, false, ◌&&◌}
use Rattle.std.specs.Prelude.{Option, Some, None, is_some, ⊤, ◌<◌, ◌≤◌, ◌≡◌, if◌then◌else◌}
use Rattle.std.specs.List.{AllByRecursion, filter, find}
use Rattle.jid_core.specs.Addresses.{Address, same_address, same_bare}
use Rattle.sm_resume.specs.Spelling.{number_of}
use Rattle.rsm_paging.specs.declared.ask.Row.{Row}
use Rattle.rsm_paging.specs.declared.ask.Filter.{Filter}
use Rattle.rsm_paging.specs.declared.ask.PageAsk.{PageAsk}
use Rattle.rsm_paging.specs.declared.ask.Page.{Page}
use Rattle.rsm_paging.specs.declared.ask.PageFault.{PageFault}
use Rattle.rsm_paging.specs.declared.ask.PageFault.TheVariants.{NoMemory, UnknownId}

-- Which rows are asked for.

-- a full address fits an equal peer, and a bare one each peer whose bare address it is
abbrev pub is_of : Address → Address → Bool
is_of asked peer = if is_some asked.resource then same_address asked peer else same_bare asked peer

abbrev pub fits_peer : Option Address → Address → Bool
fits_peer None peer = true
fits_peer (Some asked) peer = is_of asked peer

abbrev pub is_from : Option ℕ → ℕ → Bool
is_from None stamp = true
is_from (Some start) stamp = nat_le start stamp

abbrev pub is_until : Option ℕ → ℕ → Bool
is_until None stamp = true
is_until (Some end) stamp = nat_le stamp end

-- XEP-0313, 4.1: both moments are inclusive
abbrev pub fits : Filter → Row → Bool
fits f row = fits_peer f.peer row.peer && (is_from f.start row.stamp && is_until f.end row.stamp)

abbrev pub matching : Filter → List Row → List Row
matching f rows = filter (fits f) rows

-- Which of them are wanted.

abbrev pub row_numbered : Option ℕ → List Row → Option Row
row_numbered None rows = None
row_numbered (Some n) rows = find (λ row. row.id == n) rows

-- the row of an id, which is its number in decimal digits
abbrev pub row_named : List ℕ → List Row → Option Row
row_named id rows = row_numbered (number_of id) rows

abbrev pub is_past : Row → Row → Bool
is_past row other = nat_lt row.id other.id

abbrev pub those_after : Option Row → List Row → List Row
those_after None rows = rows
those_after (Some row) rows = filter (is_past row) rows

abbrev pub those_before : Option Row → List Row → List Row
those_before None rows = rows
those_before (Some row) rows = filter (λ other. is_past other row) rows

-- How many of them a page has.

-- XEP-0313, 4.3: a page has at most 50 rows, and 262,144 bytes of their texts
abbrev pub most_rows : ℕ → ℕ
most_rows max = min max 50

-- as many as fit beside so many bytes
abbrev pub as_fit : ℕ → List Row → List Row
as_fit bytes [] = []
as_fit bytes (row ∷ more) =
    if nat_le (bytes + length row.text) 262144 then row ∷ as_fit (bytes + length row.text) more else []

-- at least one
abbrev pub first_fit : List Row → List Row
first_fit [] = []
first_fit (row ∷ more) = row ∷ as_fit (length row.text) more

abbrev pub first_page : ℕ → List Row → List Row
first_page max wanted = first_fit (take (most_rows max) wanted)

-- the last that fit, in their order
abbrev pub last_page : ℕ → List Row → List Row
last_page max wanted = reverse (first_page max (reverse wanted))

-- What the answer is.

abbrev pub id_of : Row → ℕ
id_of row = row.id

-- how many of the rows that are asked for stand before the first of a page
abbrev pub index_of : List Row → List Row → ℕ
index_of asked [] = 0
index_of asked (row ∷ more) = length (filter (λ other. is_past other row) asked)

-- a page of these, of those that are wanted and those that are asked for
pub record IsPageOf (asked wanted shown : List Row) (page : Page) : Type 0 where
  pub rows : page.rows ≡ map id_of shown
  pub index : page.first_index ≡ index_of asked shown
  pub count : page.count ≡ length asked
  pub complete : page.complete ≡ (length shown == length wanted)

-- an empty `before` asks for the last page
abbrev pub row_before : List ℕ → List Row → Option Row
row_before [] rows = None
row_before id rows = row_named id rows

abbrev pub IsPageBy : List Row → List Row → (max : ℕ) → (after before : Option (List ℕ)) → Page → Type 0
IsPageBy rows asked max (Some after) before page =
    IsPageOf asked (those_after (row_named after rows) asked) (first_page max (those_after (row_named after rows) asked)) page
IsPageBy rows asked max None (Some before) page =
    IsPageOf asked (those_before (row_before before rows) asked) (last_page max (those_before (row_before before rows) asked)) page
IsPageBy rows asked max None None page = IsPageOf asked asked (first_page max asked) page

-- XEP-0059, 2: the page that is asked for
abbrev pub IsPage : List Row → Filter → PageAsk → Page → Type 0
IsPage rows f ask page = IsPageBy rows (matching f rows) ask.max ask.after ask.before page

-- Whether its id is known.

-- the id that is asked for
abbrev pub asked_id : (after before : Option (List ℕ)) → Option (List ℕ)
asked_id (Some after) before = Some after
asked_id None (Some []) = None
asked_id None (Some (b ∷ id)) = Some (b ∷ id)
asked_id None None = None

abbrev pub is_known : List Row → Option (List ℕ) → Bool
is_known rows None = true
is_known rows (Some id) = is_some (row_named id rows)

-- What is asked of a caller.

-- the id of each row is below those of the later ones
abbrev pub Rises : List Row → Type 0
Rises [] = ⊤
Rises (row ∷ more) = AllByRecursion (λ later. row.id < later.id) more × Rises more

-- the ids follow each other, from this one on
abbrev pub Follow : ℕ → List Row → Type 0
Follow n [] = ⊤
Follow n (row ∷ more) = (row.id ≡ n) × Follow (n + 1) more

-- no stamp is below this one, nor below an earlier one
abbrev pub StampsRise : ℕ → List Row → Type 0
StampsRise stamp [] = ⊤
StampsRise stamp (row ∷ more) = (stamp ≤ row.stamp) × StampsRise row.stamp more

-- these are the ids of the rows of the peer that is asked for
abbrev pub IsPicked : List ℕ → Filter → List Row → Type 0
IsPicked picked f rows = picked ≡ map id_of (filter (λ row. fits_peer f.peer row.peer) rows)

-- not both
abbrev pub IsOneWay : (after before : Option (List ℕ)) → Type 0
IsOneWay (Some after) (Some before) = ⊥
IsOneWay (Some after) None = ⊤
IsOneWay None before = ⊤

-- why there is no page: no row has the id that is asked for
abbrev pub IsUnknownId : List Row → List ℕ → PageFault → Type 0
IsUnknownId rows id NoMemory = ⊤
IsUnknownId rows id (UnknownId told) = (told ≡ id) × (is_some (row_named id rows) ≡ false)

abbrev pub IsUnknownBy : List Row → Option (List ℕ) → PageFault → Type 0
IsUnknownBy rows None NoMemory = ⊤
IsUnknownBy rows None (UnknownId told) = ⊥
IsUnknownBy rows (Some id) fault = IsUnknownId rows id fault

abbrev pub IsUnknown : List Row → (after before : Option (List ℕ)) → PageFault → Type 0
IsUnknown rows after before fault = IsUnknownBy rows (asked_id after before) fault
