-- What each state that is reached keeps, and which effects a state can take.
use Rattle.std.specs.Prelude.{◌≡◌, ℕ, ◌<◌, List, [], ◌∷◌, ⊤}
use Rattle.session_table.specs.declared.line.Line as stage
use Rattle.session_table.specs.declared.line.Line.TheVariants.{Bound}
use Rattle.house_model.specs.Sessions.{Held, Resume, unmade}
use Rattle.house_model.specs.Traffic.{Traffic, Ordered, whole}
use Rattle.house_model.specs.States.{World}
use Rattle.house_model.specs.Effects.{Effect, Open, At, Begin, On, Leave, Close, apply}

-- a bound line holds its session; a session to come is unmade; the places of each session are in order
pub record Sound (world : World Traffic) : Type 0 where
  pub tied : (w c s : ℕ) → (world.lines w).stage ≡ Bound c s → (world.sessions s).hold ≡ Held w c
  pub later : (s : ℕ) → world.made < s → world.sessions s ≡ unmade whole
  pub ordered : (s : ℕ) → Ordered (world.sessions s).traffic

-- a stage that is no session's
abbrev pub IsFree : stage.Line → Type 0
IsFree g = (c s : ℕ) → g ≡ Bound c s → ⊥

-- what an effect needs of the line that it writes: that no session is left there
abbrev pub FitsIn : World Traffic → Effect → Type 0
FitsIn world (Open w) = IsFree (world.lines w).stage
FitsIn world (At w Leave) = IsFree (world.lines w).stage
FitsIn world (At w (Close c cause)) = IsFree (world.lines w).stage
FitsIn world (Begin w c a) = IsFree (world.lines w).stage
FitsIn world (On s (Resume w c h)) = IsFree (world.lines w).stage
FitsIn world e = ⊤

-- each effect fits the state in which its turn comes
abbrev pub Fits : World Traffic → List Effect → Type 0
Fits world [] = ⊤
Fits world (e ∷ more) = FitsIn world e × Fits (apply whole world e) more

-- a session that a line holds is bound there
abbrev pub Back : World Traffic → Type 0
Back world = (s w c : ℕ) → (world.sessions s).hold ≡ Held w c → (world.lines w).stage ≡ Bound c s
