-- Readings of which the first was taken in part.
use Rattle.std.specs.Prelude.{◌≡◌, ℕ, ◌≤◌, List, [], ◌∷◌, length, drop}

abbrev pub rest_from : ℕ → List (List ℕ) → List (List ℕ)
rest_from from [] = []
rest_from from (bytes ∷ readings) = drop from bytes ∷ readings

abbrev pub IsWithin : ℕ → List (List ℕ) → Type 0
IsWithin from [] = from ≡ 0
IsWithin from (bytes ∷ readings) = from ≤ length bytes
