-- Where a text departs from a grammar.
use Rattle.std.specs.Prelude.{ℕ, ◌<◌, ◌≤◌, List, ◌++◌, length, take}
use Rattle.scram_core.specs.Expressions.{Expression, IsText}

-- The bytes begin a text.
abbrev pub Begins : Expression → List ℕ → Type 0
Begins p bs = (more : List ℕ) × IsText p (bs ++ more)

-- The bytes are no text, and k is the length of their longest front that begins one.
pub record IsPlace (p : Expression) (bs : List ℕ) (k : ℕ) : Type 0 where
  pub no_text : IsText p bs → ⊥
  pub within : k ≤ length bs
  pub begins : Begins p (take k bs)
  pub longest : (j : ℕ) → k < j → j ≤ length bs → Begins p (take j bs) → ⊥
