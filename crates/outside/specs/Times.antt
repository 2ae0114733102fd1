-- What a clock in memory gives.
use Rattle.std.specs.Prelude.{ℕ, ◌-◌, nat_lt, Bool, true, false, List, [], ◌∷◌, Option, None}
use Rattle.outside.specs.Tapes.{and_last}

-- a clock in memory: the moments to come, the last one given, those that it gave, where it tells them, and the room for more
pub record ClockState : Type 0 where
  pub left : List ℕ
  pub last : ℕ
  pub told : Option (List ℕ)
  pub room : ℕ

-- the next moment; after the script's end the last one stays
abbrev pub next_moment : List ℕ → ℕ → ℕ
next_moment [] last = last
next_moment (t ∷ ts) last = t

abbrev pub later : List ℕ → List ℕ
later [] = []
later (t ∷ ts) = ts

abbrev pub gave_by : Bool → ClockState → ℕ → ClockState
gave_by true v t = record v { left = later v.left; last = t; told = and_last ℕ v.told t; room = v.room - 1 }
gave_by false v t = record v { left = later v.left; last = t; told = None }

-- after it gave this moment; one that finds no room isn't kept, and from then on none is told
abbrev pub gave : ClockState → ℕ → ClockState
gave v t = gave_by (nat_lt 0 v.room) v t
