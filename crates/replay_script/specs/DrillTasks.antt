-- The tasks of a section, in their order.
use Rattle.std.specs.Prelude.{Bool, List, [], ◌∷◌, Option, Some, None, if◌then◌else◌}
use Rattle.replay_script.specs.declared.drill_section.Task.{Task}
use Rattle.replay_script.specs.declared.drill_section.Task.TheVariants.{Open, Login, Bind, Enable, PullBound, PullEnabled, Enter, Unlock}
use Rattle.replay_script.specs.declared.drill_section.Task.TheVariants.{DropLine, OpenAgain, LoginAgain, Resume}

-- only the first client unlocks the room
abbrev pub entering : (first : Bool) → List Task
entering first = Enter ∷ (if first then Unlock ∷ [] else [])

abbrev pub pulling : (first : Bool) → List Task
pulling first = PullBound ∷ PullEnabled ∷ entering first

-- the tasks from one on to the end of its section
abbrev pub tasks_from : (first : Bool) → Task → List Task
tasks_from first Open = Open ∷ Login ∷ Bind ∷ Enable ∷ pulling first
tasks_from first Login = Login ∷ Bind ∷ Enable ∷ pulling first
tasks_from first Bind = Bind ∷ Enable ∷ pulling first
tasks_from first Enable = Enable ∷ pulling first
tasks_from first PullBound = pulling first
tasks_from first PullEnabled = PullEnabled ∷ entering first
tasks_from first Enter = entering first
tasks_from first DropLine = DropLine ∷ OpenAgain ∷ LoginAgain ∷ Resume ∷ []
tasks_from first OpenAgain = OpenAgain ∷ LoginAgain ∷ Resume ∷ []
tasks_from first LoginAgain = LoginAgain ∷ Resume ∷ []
tasks_from first task = task ∷ []

abbrev pub tasks_if : (first : Bool) → Option Task → List Task
tasks_if first None = []
tasks_if first (Some task) = tasks_from first task
