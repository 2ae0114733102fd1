-- Where a drill stands between two of its events.
use Rattle.std.specs.Prelude.{ℕ, ◌≡◌, ◌<◌, List, [], ◌∷◌, ◌++◌, Bool, Option, Some, None, if◌then◌else◌}
use Rattle.house_model.specs.Histories.{Meets, line_of}
use Rattle.house_model.specs.declared.event.Event.{Event}
use Rattle.house_model.specs.declared.reply.Reply.{Reply}
use Rattle.replay_script.specs.DrillSections.{orders_if, tallies_in, to_come}
use Rattle.replay_script.specs.Drills.{Order, Plan, Tally, answered, event_of}
use Rattle.replay_script.specs.declared.drill.Drill.{Drill}

-- a plan; its first order's event may have been given, so that the answer to it is awaited
pub record Stand : Type 0 where
  pub asked : Bool
  pub plan : Plan

abbrev pub concluded_by : (ℕ → Tally) → List Order → Reply → (frame : List ℕ) → Plan
concluded_by cs [] r frame = record { tallies = cs; left = [] }
concluded_by cs (o ∷ more) r frame = answered cs o more r frame

-- the plan, once the answer came
abbrev pub concluded : Stand → Reply → (frame : List ℕ) → Plan
concluded s r frame = if s.asked then concluded_by s.plan.tallies s.plan.left r frame else s.plan

-- an event is that of the first order, and can come in a house of eight lines
pub record IsFirst (cs : ℕ → Tally) (o : Order) (e : Event) : Type 0 where
  pub event : e ≡ event_of cs o
  pub meets : Meets e
  pub line : line_of e < 8

abbrev pub IsNextBy : (ℕ → Tally) → List Order → Option Event → Type 0
IsNextBy cs left None = left ≡ []
IsNextBy cs [] (Some e) = ⊥
IsNextBy cs (o ∷ more) (Some e) = IsFirst cs o e

-- the next event of a plan: there is none exactly where nothing is left to do
abbrev pub IsNext : Plan → Option Event → Type 0
IsNext p next = IsNextBy p.tallies p.left next

-- the plan of the code's drill
abbrev pub plan_of : Drill → Plan
plan_of d = record { tallies = tallies_in d.tallies; left = orders_if d.section ++ to_come d.schedule }

-- where the code's drill stands
unfoldable pub stand_of : Drill → Stand
stand_of d = record { asked = d.asked; plan = plan_of d }
