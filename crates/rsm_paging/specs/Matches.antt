-- What a page needs of a row that is asked for.
use Rattle.std.specs.Prelude.{ℕ, ◌+◌, ◌-◌, ◌==◌, ◌≡◌, nat_le, nat_lt, List, [], ◌∷◌, take, drop, reverse, map, length, Option, Some, None, ⊤, if◌then◌else◌}
use Rattle.std.specs.List.{filter}
use Rattle.rsm_paging.specs.declared.ask.Page.{Page}
use Rattle.rsm_paging.specs.declared.ask.Row.{Row}
use Rattle.rsm_paging.specs.Pages.{row_named}
use Rattle.rsm_paging.specs.declared.matching.Match.{Match}

abbrev pub match_of : Row → Match
match_of row = record { id = row.id; bytes = length row.text }

-- how many fit beside so many bytes
abbrev pub fit_beside : ℕ → List Match → ℕ
fit_beside bytes [] = 0
fit_beside bytes (m ∷ more) = if nat_le (bytes + m.bytes) 262144 then 1 + fit_beside (bytes + m.bytes) more else 0

-- how many of the first fit, at least one
abbrev pub how_many : List Match → ℕ
how_many [] = 0
how_many (m ∷ more) = 1 + fit_beside m.bytes more

abbrev pub ids : List Match → List ℕ
ids ms = map (λ m. m.id) ms

-- how many have an id up to this one, and how many one below it
abbrev pub up_to : ℕ → List Match → ℕ
up_to id ms = length (filter (λ m. nat_le m.id id) ms)

abbrev pub below : ℕ → List Match → ℕ
below id ms = length (filter (λ m. nat_lt m.id id) ms)

-- those that a page of at most so many has of these
abbrev pub shown_of : ℕ → List Match → List Match
shown_of max ms = take (how_many (take max ms)) ms

-- where many are shown that begin at this place
abbrev pub index_if : (many place : ℕ) → ℕ
index_if many place = if many == 0 then 0 else place

-- the page of those from a place on
pub record IsFirst (asked : List Match) (from max : ℕ) (page : Page) : Type 0 where
  pub rows : page.rows ≡ ids (shown_of max (drop from asked))
  pub index : page.first_index ≡ index_if (how_many (take max (drop from asked))) from
  pub count : page.count ≡ length asked
  pub complete : page.complete ≡ (how_many (take max (drop from asked)) == length (drop from asked))

-- the page of the last of those before a place
pub record IsLast (asked : List Match) (to max : ℕ) (page : Page) : Type 0 where
  pub rows : page.rows ≡ reverse (ids (shown_of max (reverse (take to asked))))
  pub index : page.first_index
      ≡ index_if (how_many (take max (reverse (take to asked)))) (length (take to asked) - how_many (take max (reverse (take to asked))))
  pub count : page.count ≡ length asked
  pub complete : page.complete ≡ (how_many (take max (reverse (take to asked))) == length (take to asked))

-- The page, by the row that an id names.

abbrev pub IsFirstAfter : Option Row → List Match → (max : ℕ) → Page → Type 0
IsFirstAfter None asked max page = ⊤
IsFirstAfter (Some row) asked max page = IsFirst asked (up_to row.id asked) max page

abbrev pub IsLastBefore : Option Row → List Match → (max : ℕ) → Page → Type 0
IsLastBefore None asked max page = ⊤
IsLastBefore (Some row) asked max page = IsLast asked (below row.id asked) max page

abbrev pub IsMatched : List Row → List Match → (max : ℕ) → (after before : Option (List ℕ)) → Page → Type 0
IsMatched rows asked max (Some after) before page = IsFirstAfter (row_named after rows) asked max page
IsMatched rows asked max None (Some []) page = IsLast asked (length asked) max page
IsMatched rows asked max None (Some (b ∷ id)) page = IsLastBefore (row_named (b ∷ id) rows) asked max page
IsMatched rows asked max None None page = IsFirst asked 0 max page
