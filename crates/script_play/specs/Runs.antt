-- How a script is played, line by line, and how its play ends.
use Rattle.std.specs.Prelude.{◌≡◌, ℕ, ◌+◌, ◌<◌, ◌≤◌, List, [], ◌∷◌, ◌++◌, length, Bool, true, false, Option, Some, None, Result, Ok, Err, ⊤}
use Rattle.house_model.specs.States.{State, Kept}
use Rattle.house_model.specs.Promises.{Safe}
use Rattle.house_model.specs.Histories.{Turn, line_of, after, StandsFor}
use Rattle.house_core.specs.Houses.{HouseRecord, held}
use Rattle.replay_script.specs.declared.step.Step.{Step}
use Rattle.replay_script.specs.declared.step.Step.TheVariants as step
use Rattle.replay_script.specs.declared.fault.LineFault.{LineFault}
use Rattle.replay_script.specs.declared.fault.LineFault.TheVariants.{Bad, NoMemory}
use Rattle.replay_script.specs.Lines.{step_of}
use Rattle.replay_script.specs.Deeds.{Deed, Framers, IsDone, AreDone, step_at, turn_in, turns_of, no_framers}
use Rattle.replay_script.specs.Deeds.{framers_next, framers_after, print_deed, prints, no_streams, ArePrints}
use Rattle.replay_script.specs.Scripts.{Makes, Spells, AreWithin, IsPlayed, IsRefused, lines_of, size_of}
use Rattle.script_play.specs.declared.status.Status.{Status}
use Rattle.script_play.specs.declared.status.Status.TheVariants as status
use Rattle.script_play.specs.Readings.{TakesLine, PassesLimit, Ends}

-- where a script's play stops: at its end, or at the line after those that were played
abbrev pub StopsAt : Status → List (List ℕ) → State → List Deed → List (List ℕ) → Option (List ℕ) → Type 0
StopsAt status.Done lines o h more left = (more ≡ []) × (left ≡ Some [])
StopsAt (status.Script n) lines o h more left = (line : List ℕ) × ((rest : List (List ℕ)) × ((more ≡ line ∷ rest) × IsRefused lines o h line))
StopsAt status.ReadFault lines o h more left = ⊤
StopsAt status.WriteFault lines o h more left = ⊤
StopsAt status.NoMemory lines o h more left = ⊤
StopsAt status.Usage lines o h more left = ⊥
StopsAt (status.Accounts n) lines o h more left = ⊥
StopsAt status.ListenFault lines o h more left = ⊥

-- the number that a status tells is that of the line after those that were played; and replaying has no other statuses
abbrev pub IsNumbered : Status → ℕ → Type 0
IsNumbered status.Done lines = ⊤
IsNumbered (status.Script n) lines = n ≡ lines + 1
IsNumbered status.ReadFault lines = ⊤
IsNumbered status.WriteFault lines = ⊤
IsNumbered status.NoMemory lines = ⊤
IsNumbered status.Usage lines = ⊥
IsNumbered (status.Accounts n) lines = ⊥
IsNumbered status.ListenFault lines = ⊥

-- the prints were written: all, and where the sink failed a front of them, if it still tells what it took
abbrev pub Front : List ℕ → List ℕ → Option (List ℕ) → Type 0
Front taken prints None = Unit {0}
Front taken prints (Some told) = (done : List ℕ) × ((rest : List ℕ) × ((prints ≡ done ++ rest) × (told ≡ taken ++ done)))

abbrev pub All : List ℕ → List ℕ → Option (List ℕ) → Type 0
All taken prints now = now ≡ Some (taken ++ prints)

abbrev pub IsWritten : Status → List ℕ → List ℕ → Option (List ℕ) → Type 0
IsWritten status.Done taken prints now = All taken prints now
IsWritten (status.Script n) taken prints now = All taken prints now
IsWritten status.ReadFault taken prints now = All taken prints now
IsWritten status.WriteFault taken prints now = Front taken prints now
IsWritten status.NoMemory taken prints now = All taken prints now
IsWritten status.Usage taken prints now = ⊥
IsWritten (status.Accounts n) taken prints now = ⊥
IsWritten status.ListenFault taken prints now = ⊥

-- A script was played. The first lines of what the source had left are these deeds, whose turns are a legal history, of which the promises of
-- sessions hold; what follows them says why the play stopped there, and what the sink took since are their prints.
pub record Replayed (left left_now took took_now : Option (List ℕ)) (s : Status) : Type 0 where
  pub lines : List (List ℕ)
  pub start : State
  pub deeds : List Deed
  pub played : IsPlayed lines start deeds
  pub safe : Safe start (turns_of deeds)
  pub number : IsNumbered s (length lines)
  pub read : (all : List ℕ) → left ≡ Some all → (more : List (List ℕ)) × ((lines_of all ≡ lines ++ more) × StopsAt s lines start deeds more left_now)
  pub out : List ℕ
  pub are_prints : ArePrints no_streams deeds out
  pub written : (taken : List ℕ) → took ≡ Some taken → IsWritten s taken out took_now

-- These lines were played as these deeds, for whose turns the house stands; what is still to come are the lines after them, and `number`
-- is the next one's.
pub record Along (left coming : Option (List ℕ)) (given : ℕ) (house : Kept) (framers : Framers) (number : ℕ) (lines : List (List ℕ)) (start : State)
    (deeds : List Deed) : Type 0 where
  pub stands : StandsFor start (turns_of deeds) house
  pub framed : framers ≡ framers_after no_framers deeds
  pub spelt : Spells lines start deeds
  pub done : AreDone start deeds
  pub within : AreWithin 0 lines
  pub some : 0 < length lines
  pub each : length lines ≤ given
  pub most : given ≤ 1073741824
  pub size : given ≡ size_of lines
  pub count : number ≡ length lines + 1
  pub read : (all : List ℕ) → left ≡ Some all → (rest : List ℕ) × ((coming ≡ Some rest) × (lines_of all ≡ lines ++ lines_of rest))

-- and their prints were written
pub record Going (left coming took took_now : Option (List ℕ)) (given : ℕ) (house : Kept) (framers : Framers) (number : ℕ) : Type 0 where
  pub lines : List (List ℕ)
  pub start : State
  pub deeds : List Deed
  pub along : Along left coming given house framers number lines start deeds
  pub written : (taken : List ℕ) → took ≡ Some taken → took_now ≡ Some (taken ++ prints deeds)

-- what came of taking a line: one, or none, or why none could be
abbrev pub Stopping : Status → Option (List ℕ) → ℕ → ℕ → Type 0
Stopping status.Done old before number = ⊥
Stopping (status.Script n) old before number = (n ≡ number) × PassesLimit old before
Stopping status.ReadFault old before number = ⊤
Stopping status.WriteFault old before number = ⊥
Stopping status.NoMemory old before number = ⊤
Stopping status.Usage old before number = ⊥
Stopping (status.Accounts n) old before number = ⊥
Stopping status.ListenFault old before number = ⊥

abbrev pub Taking : Option (List ℕ) → Option (List ℕ) → ℕ → ℕ → List ℕ → ℕ → Result Bool Status → Type 0
Taking old now before after text number (Ok true) = TakesLine old now before after text
Taking old now before after text number (Ok false) = Ends old now
Taking old now before after text number (Err s) = Stopping s old before number

-- the house of a first line stands for no turns
abbrev pub Opens : List ℕ → Kept → Type 0
Opens text house = (o : State) × (Makes text o × StandsFor o [] house)

-- a step was played as a deed, and this is its print; or it is none that can be played here
pub record PlaysDeed (before now : Kept) (framers framers_now : Framers) (s : Step) (out : List ℕ) : Type 0 where
  pub deed : Deed
  pub spelt : Some s ≡ step_at deed
  pub done : (o : State) (h : List Turn) → StandsFor o h before → IsDone (after o h) deed
  pub stands : (o : State) (h : List Turn) → StandsFor o h before → StandsFor o (h ++ turn_in deed) now
  pub framed : framers_now ≡ framers_next framers deed
  pub printed : out ≡ print_deed framers deed

abbrev pub MayComeHere : Kept → Step → Type 0
MayComeHere house (step.Begin domain users workers) = ⊥
MayComeHere house (step.Event e) = line_of e < house.head.workers
MayComeHere house (step.Feed w bytes) = w < house.head.workers
MayComeHere house (step.Fresh w) = w < house.head.workers

abbrev pub PlaysStep : {X : Type 0} → Kept → Kept → Framers → Framers → Step → List ℕ → Result X LineFault → Type 0
PlaysStep before after framers framers_now s out (Ok x) = PlaysDeed before after framers framers_now s out
PlaysStep before after framers framers_now s out (Err Bad) = MayComeHere before s → ⊥
PlaysStep before after framers framers_now s out (Err NoMemory) = ⊤

-- a line was played so
pub record PlaysLine (before after : Kept) (framers framers_now : Framers) (text out : List ℕ) : Type 0 where
  pub step_is : Step
  pub spelt : step_of text ≡ Some step_is
  pub plays : PlaysDeed before after framers framers_now step_is out

abbrev pub Plays : {X : Type 0} → Kept → Kept → Framers → Framers → List ℕ → List ℕ → Result X LineFault → Type 0
Plays before after framers framers_now text out (Ok x) = PlaysLine before after framers framers_now text out
Plays before after framers framers_now text out (Err Bad) = (s : Step) → step_of text ≡ Some s → MayComeHere before s → ⊥
Plays before after framers framers_now text out (Err NoMemory) = ⊤

-- what came of the first line
abbrev pub Opening : Option (List ℕ) → Option (List ℕ) → Option (List ℕ) → Option (List ℕ) → ℕ → Result (Option HouseRecord) Status → Type 0
Opening left coming left_now took given (Ok (Some house)) = Going left coming took took given (held house) no_framers 2
Opening left coming left_now took given (Ok None) = Replayed left left_now took took status.Done
Opening left coming left_now took given (Err s) = Replayed left left_now took took s

-- what came of a turn of the play
abbrev pub Turning : Option (List ℕ) → Option (List ℕ) → Option (List ℕ) → Option (List ℕ) → Option (List ℕ) → ℕ → Kept → Framers → ℕ → Result Bool Status
    → Type 0
Turning left coming left_now took took_now given house framers number (Ok true) = Going left coming took took_now given house framers (number + 1)
Turning left coming left_now took took_now given house framers number (Ok false) = Replayed left left_now took took_now status.Done
Turning left coming left_now took took_now given house framers number (Err s) = Replayed left left_now took took_now s

abbrev pub Ending : {X : Type 0} → Option (List ℕ) → Option (List ℕ) → Option (List ℕ) → Option (List ℕ) → Result X Status → Type 0
Ending left left_now took took_now (Ok x) = Replayed left left_now took took_now status.Done
Ending left left_now took took_now (Err s) = Replayed left left_now took took_now s
