-- Scripts that can be played from the first line to the last.
use Rattle.std.specs.Prelude.{◌≡◌, ℕ, ◌+◌, List, [], ◌∷◌, length, Some, ⊤}
use Rattle.house_model.specs.States.{State}
use Rattle.house_model.specs.Histories as house
use Rattle.replay_script.specs.declared.step.Step.{Step}
use Rattle.replay_script.specs.declared.step.Step.TheVariants as step
use Rattle.replay_script.specs.Scripts.{Makes, IsWithin, MayCome, lines_of, text_of, step_in}

-- the state of the house once a step was done
abbrev pub state_by : State → Step → State
state_by st (step.Event e) = (house.step st e).state
state_by st s = st

-- Each of these lines is within the limits and of the grammar, and may come where the lines before it lead; so many bytes stand before them.
abbrev pub CanBePlayed : State → ℕ → List (List ℕ) → Type 0
CanBePlayed st read [] = ⊤
CanBePlayed st read (line ∷ more) = IsWithin read line
    × ((s : Step) × (step_in line ≡ Some s) × MayCome st s × CanBePlayed (state_by st s) (read + length line) more)

-- the first line makes a house, and the others can be played in it; a script may be empty
abbrev pub AreValid : List (List ℕ) → Type 0
AreValid [] = ⊤
AreValid (first ∷ more) = IsWithin 0 first × ((o : State) × Makes (text_of first) o × CanBePlayed o (length first) more)

abbrev pub IsValid : List ℕ → Type 0
IsValid bytes = AreValid (lines_of bytes)
