-- What a name begins with.
use Rattle.std.specs.Prelude.{ℕ, List, [], ◌∷◌, Bool, false, ◌==◌}

abbrev pub begins_with_x : List ℕ → Bool
begins_with_x [] = false
begins_with_x (c ∷ cs) = c == 120
