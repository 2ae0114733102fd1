-- What appending leaves of a vector.
use Rattle.std.specs.Prelude.{ℕ, ◌≤◌, vec_len}
use Rattle.std.specs.List.{SameBelow}
use Rattle.std.specs.declared.vec.Vec.{Vec}
use Rattle.std.specs.declared.alloc.Global.{Global}

-- what was there is still the front
abbrev pub Keeps : Vec ℕ Global → Vec ℕ Global → Type 0
Keeps before after = (vec_len before ≤ vec_len after) × SameBelow before.items after.items (vec_len before)
