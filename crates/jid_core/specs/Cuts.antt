-- What stands before and after the first of a byte.
use Rattle.std.specs.Prelude.{ℕ, List, [], ◌∷◌, ◌==◌, Option, Some, None, if◌then◌else◌}

-- what stands before the first such byte: all where there is none
abbrev pub before : ℕ → List ℕ → List ℕ
before c [] = []
before c (b ∷ bs) = if b == c then [] else b ∷ before c bs

-- what stands after the first such byte, if there is one
abbrev pub after : ℕ → List ℕ → Option (List ℕ)
after c [] = None
after c (b ∷ bs) = if b == c then Some bs else after c bs
