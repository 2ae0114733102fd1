-- What dice tell.
use Rattle.std.specs.Prelude.{◌≡◌, ℕ, ◌+◌, ◌-◌, nat_lt, nat_le, true, false, List, [], ◌∷◌, ◌++◌, length, take, drop, replicate, Option, None}
use Rattle.outside.specs.declared.dice.Filled.{Filled}
use Rattle.outside.specs.declared.dice.Filled.TheVariants as filled
use Rattle.outside.specs.Tapes.{Tells, and_last}
use Rattle.outside.specs.Plans.{Plan, fails_next, called, failed}

-- where draws are told, one that filled its bytes comes last, and one that failed adds none
abbrev pub Draws : Option (List (List ℕ)) → Option (List (List ℕ)) → Filled → List ℕ → Type 0
Draws old now filled.Full bytes = Tells (List ℕ) old now (bytes ∷ [])
Draws old now filled.Failed bytes = Tells (List ℕ) old now []

-- bytes cut into pieces of these lengths
abbrev pub pieces : List ℕ → List ℕ → List (List ℕ)
pieces [] bytes = []
pieces (n ∷ ns) bytes = take n bytes ∷ pieces ns (drop n bytes)

abbrev pub total : List ℕ → ℕ
total [] = 0
total (n ∷ ns) = n + total ns

-- dice in memory: their plan, the bytes to come, what was drawn, where they tell it, and the room for more draws
pub record DiceState : Type 0 where
  pub plan : Plan
  pub left : List ℕ
  pub drawn : Option (List (List ℕ))
  pub room : ℕ

-- after these bytes were drawn
abbrev pub drew : DiceState → List ℕ → DiceState
drew v bytes =
    record v { plan = called v.plan; left = drop (length bytes) v.left; drawn = and_last (List ℕ) v.drawn bytes; room = v.room - 1 }

-- what the filling of so many bytes comes to
abbrev pub Fills : DiceState → DiceState → Filled → List ℕ → Type 0
Fills v w result bytes =
    (fails_next v.plan ≡ true → (result ≡ filled.Failed) × (w ≡ record v { plan = failed v.plan }))
    -- too few bytes are to come
    × (fails_next v.plan ≡ false → nat_le (length bytes) (length v.left) ≡ false
    → (result ≡ filled.Failed) × (w ≡ record v { plan = failed v.plan }))
    -- no room to keep it
    × (fails_next v.plan ≡ false → nat_le (length bytes) (length v.left) ≡ true → nat_lt 0 v.room ≡ false
    → (result ≡ filled.Failed) × (w ≡ record v { plan = failed v.plan; drawn = None }))
    × (fails_next v.plan ≡ false → nat_le (length bytes) (length v.left) ≡ true → nat_lt 0 v.room ≡ true
    → (result ≡ filled.Full) × (bytes ≡ take (length bytes) v.left) × (w ≡ drew v bytes))

-- so many bytes: those to come, and then zeros
abbrev pub filled_up : List ℕ → ℕ → List ℕ
filled_up left n = take n left ++ replicate (n - length left) 0
