-- A script as its lines, and what it plays.
use Rattle.std.specs.Prelude.{◌≡◌, ℕ, ◌+◌, ◌<◌, ◌≤◌, ◌==◌, ◌⊎◌, List, [], ◌∷◌, length, map, Option, Some, ⊤, if◌then◌else◌}
use Rattle.jid_core.specs.Addresses.{Address}
use Rattle.jid_core.specs.Cuts.{before}
use Rattle.house_model.specs.States.{State, opening}
use Rattle.house_model.specs.Histories.{after, line_of, IsOpening, Legal}
use Rattle.replay_script.specs.declared.step.Step.{Step}
use Rattle.replay_script.specs.declared.step.Step.TheVariants as step
use Rattle.replay_script.specs.Deeds.{Deed, AreDone, step_at, turns_of}
use Rattle.replay_script.specs.Lines.{step_of}

-- a byte before lines: it begins the first, and is a line of its own where it is a line feed
abbrev pub begun : ℕ → List (List ℕ) → List (List ℕ)
begun b [] = (b ∷ []) ∷ []
begun b (line ∷ more) = (b ∷ line) ∷ more

abbrev pub with_byte : ℕ → List (List ℕ) → List (List ℕ)
with_byte b lines = if b == 10 then (b ∷ []) ∷ lines else begun b lines

-- the lines of bytes, each with its line feed; a last one may have none
abbrev pub lines_of : List ℕ → List (List ℕ)
lines_of [] = []
lines_of (b ∷ more) = with_byte b (lines_of more)

-- a line without its line feed
abbrev pub text_of : List ℕ → List ℕ
text_of line = before 10 line

-- a line of at most 200,000 bytes, that ends within the first 2^30 bytes of the script; so many bytes stand before it
pub record IsWithin (read : ℕ) (line : List ℕ) : Type 0 where
  pub line_is : length (text_of line) ≤ 200000
  pub script_is : read + length line ≤ 1073741824

abbrev pub AreWithin : ℕ → List (List ℕ) → Type 0
AreWithin read [] = ⊤
AreWithin read (line ∷ more) = IsWithin read line × AreWithin (read + length line) more

-- how many bytes these lines have
abbrev pub size_of : List (List ℕ) → ℕ
size_of [] = 0
size_of (line ∷ more) = length line + size_of more

-- a first line, as a text, makes the house in this state
pub record Makes (text : List ℕ) (o : State) : Type 0 where
  pub domain : Address
  pub users : List (List ℕ)
  pub workers : ℕ
  pub spelt : step_of text ≡ Some (step.Begin domain users workers)
  pub made : o ≡ opening domain users workers

abbrev pub step_in : List ℕ → Option Step
step_in line = step_of (text_of line)

-- the first line makes the house, and each later line is one deed
abbrev pub Spells : List (List ℕ) → State → List Deed → Type 0
Spells [] o ds = ds ≡ []
Spells (first ∷ more) o ds = Makes (text_of first) o × (map step_in more ≡ map step_at ds)

-- these lines were played: all are within the limits, each deed was done, and the turns are those of a legal history
pub record IsPlayed (lines : List (List ℕ)) (o : State) (ds : List Deed) : Type 0 where
  pub starts : IsOpening o
  pub legal : Legal o (turns_of ds)
  pub spelt : Spells lines o ds
  pub done : AreDone o ds
  pub within : AreWithin 0 lines

-- the step may come in this state: the line that it names is there
abbrev pub MayCome : State → Step → Type 0
MayCome st (step.Begin domain users workers) = ⊥
MayCome st (step.Event e) = line_of e < st.head.workers
MayCome st (step.Feed w bytes) = w < st.head.workers
MayCome st (step.Fresh w) = w < st.head.workers

-- the line is no first line, or no later one after these
abbrev pub IsOutside : List (List ℕ) → State → List Deed → List ℕ → Type 0
IsOutside [] o ds line = (s : State) → Makes (text_of line) s → ⊥
IsOutside (first ∷ more) o ds line = (s : Step) → step_in line ≡ Some s → MayCome (after o (turns_of ds)) s → ⊥

-- the line after these can't be played: it passes a limit, is of no grammar, or names what is not there
abbrev pub IsRefused : List (List ℕ) → State → List Deed → List ℕ → Type 0
IsRefused lines o ds line = (IsWithin (size_of lines) line → ⊥) ⊎ IsOutside lines o ds line
