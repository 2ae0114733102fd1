-- A spelling with a last child more. Only proofs need it.
use Rattle.std.specs.Prelude.{ℕ, ◌-◌, List, ◌++◌, Bool, not, codes, eqb, length, take}
use Rattle.std.specs.List.{ends_with}

abbrev pub end_tag : (local : List ℕ) → List ℕ
end_tag local = codes "</" ++ local ++ codes ">"

-- an element with content ends by its end tag; one without ends by `/>`
abbrev pub is_open : (spelt : List ℕ) → Bool
is_open spelt = not (ends_with eqb spelt (codes "/>"))

abbrev pub before_end : (local spelt : List ℕ) → List ℕ
before_end local spelt = take (length spelt - length local - 3) spelt

abbrev pub grown : (local spelt child : List ℕ) → List ℕ
grown local spelt child = before_end local spelt ++ child ++ end_tag local
