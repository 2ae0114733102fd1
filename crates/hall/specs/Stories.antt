-- The story of the house under the lock.
use Rattle.std.specs.Prelude.{ℕ, List}
use Rattle.turn_lock.specs.declared.tokens.Pass.{Pass}
use Rattle.house_model.specs.States.{State, Kept}
use Rattle.house_model.specs.Histories.{Turn, Legal, StandsFor, line_of}
use Rattle.house_core.specs.Houses.{held}
use Rattle.hall.specs.declared.recorded.Recorded.{Recorded}
use Rattle.hall.specs.Openings.{OpeningRecord, opening_of}

abbrev pub HallPass : Type 0
HallPass = Pass Recorded Turn OpeningRecord

abbrev pub line : Turn → ℕ
line x = line_of x.event

abbrev pub root : Recorded → OpeningRecord
root r = opening_of (held r.house.value)

-- the history is known to be legal from this state
abbrev pub IsLegal : State → List Turn → Type 0
IsLegal o h = ∥ Legal o h ∥₁

-- what the code has is known to stand for the history
abbrev pub Stands : State → List Turn → Kept → Type 0
Stands o h k = ∥ StandsFor o h k ∥₁
