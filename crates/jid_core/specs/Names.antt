-- Names that differ.
use Rattle.std.specs.Prelude.{ℕ, List, [], ◌∷◌, Bool, true, not, ◌&&◌, bytes_eq}
use Rattle.std.specs.List.{list_any}

-- no two are the same
abbrev pub are_distinct : List (List ℕ) → Bool
are_distinct [] = true
are_distinct (u ∷ us) = not (list_any (bytes_eq u) us) && are_distinct us
