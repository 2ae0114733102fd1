-- What the code has of a drill, as orders and tallies: a section, those to come, and two rows of numbers.
use Rattle.std.specs.Prelude.{◌≡◌, ℕ, ◌+◌, ◌-◌, ◌*◌, ◌==◌, nat_lt, ⊤, List, [], ◌++◌, map, flat_map, drop, slice_index, codes, Option, Some, None, Bool, true, false}
use Rattle.std.specs.Prelude.{if◌then◌else◌}
use Rattle.house_model.specs.declared.event.Event.TheVariants.{OpenLine, Login, Bind, Enable, Act, Pull, DropLine, CloseLine}
use Rattle.house_model.specs.declared.reply.Reply.{Reply}
use Rattle.house_model.specs.declared.reply.Reply.TheVariants as reply
use Rattle.replay_script.specs.DrillStanzas.{enter, to_client, to_room, unlock, user}
use Rattle.replay_script.specs.DrillTasks.{tasks_from}
use Rattle.replay_script.specs.Drills.{AckAll, Do, Order, PullAll, ResumeFrom, Tally, clients, dice, drawn, rounds, start}
use Rattle.replay_script.specs.declared.drill_schedule.Schedule.{Schedule}
use Rattle.replay_script.specs.declared.drill_section.Section.{Section}
use Rattle.replay_script.specs.declared.drill_section.Task.{Task}
use Rattle.replay_script.specs.declared.drill_section.Task.TheVariants as task
use Rattle.replay_script.specs.declared.drill_tallies.Tallies.{Tallies}

-- the order that a task of client i is, in round k at the moment t, where x was drawn
abbrev pub order_by : (i k t x : ℕ) → Task → Order
order_by i k t x task.Open = Do (OpenLine i)
order_by i k t x task.Login = Do (Login i (user i))
order_by i k t x task.Bind = Do (Bind i (codes "b") (Some (codes "r")) t (dice i))
order_by i k t x task.Enable = Do (Enable i true (dice i))
order_by i k t x task.PullBound = Do (Pull i t)
order_by i k t x task.PullEnabled = Do (Pull i t)
order_by i k t x task.Enter = Do (Act i (enter i) t)
order_by i k t x task.Unlock = Do (Act i unlock t)
order_by i k t x task.SayInRoom = Do (Act i (to_room k) t)
order_by i k t x task.SayToClient = Do (Act i (to_client (drawn 8 x) k) t)
order_by i k t x task.PullAll = PullAll i t
order_by i k t x task.AckAll = AckAll i
order_by i k t x task.DropLine = Do (DropLine i t)
order_by i k t x task.OpenAgain = Do (OpenLine i)
order_by i k t x task.LoginAgain = Do (Login i (user i))
order_by i k t x task.Resume = ResumeFrom i (drawn 4 x) t
order_by i k t x task.CloseLine = Do (CloseLine i t)

abbrev pub orders_by : (i k t x : ℕ) → Task → List Order
orders_by i k t x next = map (order_by i k t x) (tasks_from (i == 0) next)

abbrev pub first_order : Section → Order
first_order s = order_by s.client s.round s.moment s.drawn s.task

-- the orders that are left of a section
abbrev pub orders_in : Section → List Order
orders_in s = orders_by s.client s.round s.moment s.drawn s.task

abbrev pub orders_if : Option Section → List Order
orders_if None = []
orders_if (Some s) = orders_in s

-- the moment after all rounds
abbrev pub last_moment : Schedule → ℕ
last_moment s = 1000 * (s.rounds + 1)

-- the orders of the sections to come: of clients that didn't come yet, of rounds, and of the ending
abbrev pub to_come : Schedule → List Order
to_come s =
    flat_map start (drop s.entered clients) ++ rounds (s.rounds - s.played) (s.played + 1) s.drawn
    ++ (map (λ i. PullAll i (last_moment s)) (drop s.pulled clients) ++ map (λ i. Do (CloseLine i (last_moment s))) (drop s.closed clients))

-- a section is the first of all orders, and these are the others; there is none only where nothing is left
abbrev pub IsCut : (all : List Order) → Option Section → (others : List Order) → Type 0
IsCut all None others = (all ≡ []) × (others ≡ [])
IsCut all (Some s) others = orders_in s ++ others ≡ all

-- a section is at hand, or nothing is left
abbrev pub IsReady : Option Section → (others : List Order) → Type 0
IsReady None others = others ≡ []
IsReady (Some s) others = ⊤

-- what a client does by the number of an operation, first
abbrev pub task_for : (op : ℕ) → Task
task_for op =
    if nat_lt op 3 then task.SayInRoom
    else if op == 3 then task.SayToClient
    else if nat_lt op 6 then task.PullAll
    else if op == 6 then task.AckAll
    else task.DropLine

-- a task is to be done again after this answer
abbrev pub is_again : Task → Reply → Bool
is_again task.PullAll reply.Frame = true
is_again next r = false

-- each client's tally
abbrev pub tallies_in : Tallies → ℕ → Tally
tallies_in ts i = record { pulled = slice_index ts.pulled i; said = slice_index ts.said i }
