-- A drill: eight clients in one room, what each does as a key draws it, and the line that tells how it went.
use Rattle.std.specs.Prelude.{ℕ, zero, suc, ◌+◌, ◌-◌, ◌*◌, ◌/◌, ◌%◌, ◌^◌, ◌==◌, ◌||◌, ◌≡◌, nat_lt, max, Bool, true, false, Some}
use Rattle.std.specs.Prelude.{List, [], ◌∷◌, ◌++◌, length, map, flat_map, replicate, codes, if◌then◌else◌}
use Rattle.std.specs.Fmt.{decimal}
use Rattle.std.specs.List.{filter}
use Rattle.sm_counters.specs.Numbers.{count_of}
use Rattle.sm_resume.specs.declared.id.ResumeId.{ResumeId}
use Rattle.house_model.specs.States.{State, opening}
use Rattle.house_model.specs.Histories.{Outcome, Made, Short, Turn}
use Rattle.house_model.specs.declared.event.Event.{Event}
use Rattle.house_model.specs.declared.event.Event.TheVariants.{OpenLine, Login, Bind, Enable, Resume, Act, Ack, Pull, DropLine, CloseLine}
use Rattle.house_model.specs.declared.reply.Reply.{Reply}
use Rattle.house_model.specs.declared.reply.Reply.TheVariants as reply
use Rattle.replay_script.specs.DrillStanzas.{domain, enter, to_client, to_room, unlock, user}

-- Who is there.

abbrev pub clients : List ℕ
clients = 0 ∷ 1 ∷ 2 ∷ 3 ∷ 4 ∷ 5 ∷ 6 ∷ 7 ∷ []

abbrev pub house : State
house = opening domain (map user clients) 8

abbrev pub dice : (i : ℕ) → List ℕ
dice i = replicate 15 0 ++ i ∷ []

-- the session of a client, which is the next of the house
abbrev pub session_of : (i : ℕ) → ResumeId
session_of i = record { session = i + 1; digits = dice i }

-- What is drawn.

-- a linear congruential generator
abbrev pub stirred : (x : ℕ) → ℕ
stirred x = (x * 6364136223846793005 + 1442695040888963407) % 2 ^ 64

-- a number below k
abbrev pub drawn : (k x : ℕ) → ℕ
drawn k x = (x / 2 ^ 33) % k

-- What is to be done, one after the other, each on the line of a client.

pub data Order : Type 0 where
  Do : (event : Event) → Order
  PullAll : (i t : ℕ) → Order  -- Pull until the reply isn't a frame
  AckAll : (i : ℕ) → Order  -- Ack of what was pulled
  ResumeFrom : (i fewer t : ℕ) → Order  -- Resume, as if so many fewer had been pulled, but all that was said

-- the clients come one after the other, and enter the room, which the first unlocks
abbrev pub start : (i : ℕ) → List Order
start i =
    Do (OpenLine i) ∷ Do (Login i (user i)) ∷ Do (Bind i (codes "b") (Some (codes "r")) 0 (dice i)) ∷ Do (Enable i true (dice i)) ∷ Do (Pull i 0)
    ∷ Do (Pull i 0) ∷ Do (Act i (enter i) 0) ∷ (if i == 0 then Do (Act i unlock 0) ∷ [] else [])

-- the connection of a client is lost, and another resumes its session
abbrev pub come_again : (i fewer t : ℕ) → List Order
come_again i fewer t = Do (DropLine i t) ∷ Do (OpenLine i) ∷ Do (Login i (user i)) ∷ ResumeFrom i fewer t ∷ []

-- what a client does in round k, by the number of an operation, and what may be drawn for it
abbrev pub operation : (k i op x : ℕ) → List Order
operation k i op x =
    if nat_lt op 3 then Do (Act i (to_room k) (1000 * k)) ∷ []
    else if op == 3 then Do (Act i (to_client (drawn 8 x) k) (1000 * k)) ∷ []
    else if nat_lt op 6 then PullAll i (1000 * k) ∷ []
    else if op == 6 then AckAll i ∷ []
    else come_again i (drawn 4 x) (1000 * k)

-- whether a number is drawn for it
abbrev pub draws : (op : ℕ) → Bool
draws op = (op == 3) || (op == 7)

-- a round: who does what is drawn, after x
abbrev pub round : (k x : ℕ) → List Order
round k x = operation k (drawn 8 (stirred x)) (drawn 8 (stirred (stirred x))) (stirred (stirred (stirred x)))

-- what was drawn last in it
abbrev pub after_round : (x : ℕ) → ℕ
after_round x = if draws (drawn 8 (stirred (stirred x))) then stirred (stirred (stirred x)) else stirred (stirred x)

-- so many rounds, from round k on
abbrev pub rounds : (many k x : ℕ) → List Order
rounds zero k x = []
rounds (suc many) k x = round k x ++ rounds many (k + 1) (after_round x)

-- at the end all that waits is pulled, and all streams are closed
abbrev pub ending : (t : ℕ) → List Order
ending t = map (λ i. PullAll i t) clients ++ map (λ i. Do (CloseLine i t)) clients

abbrev pub orders : (n key : ℕ) → List Order
orders n key = flat_map start clients ++ rounds n 1 key ++ ending (1000 * (n + 1))

-- How it goes.

-- how many stanzas a client was given, since it counts, and how many of them it said that it handled
pub record Tally : Type 0 where
  pub pulled : ℕ
  pub said : ℕ

pub record Plan : Type 0 where
  pub tallies : ℕ → Tally
  pub left : List Order

abbrev pub plan : (n key : ℕ) → Plan
plan n key = record { tallies = λ i. record { pulled = 0; said = 0 }; left = orders n key }

abbrev pub from : (fewer : ℕ) → Tally → ℕ
from fewer c = max c.said (c.pulled - fewer)

-- the event of an order
abbrev pub event_of : (ℕ → Tally) → Order → Event
event_of cs (Do e) = e
event_of cs (PullAll i t) = Pull i t
event_of cs (AckAll i) = Ack i (count_of (cs i).pulled)
event_of cs (ResumeFrom i fewer t) = Resume i (Some (session_of i)) (count_of (from fewer (cs i))) t

abbrev pub begins : (front bytes : List ℕ) → Bool
begins [] bytes = true
begins (a ∷ front) [] = false
begins (a ∷ front) (b ∷ bytes) = if a == b then begins front bytes else false

-- XEP-0198, 4: a frame that counts is a stanza
abbrev pub is_stanza : (frame : List ℕ) → Bool
is_stanza frame = begins (codes "<message") frame || begins (codes "<presence") frame || begins (codes "<iq") frame

abbrev pub with_tally : (i : ℕ) → Tally → (ℕ → Tally) → ℕ → Tally
with_tally i c cs j = if j == i then c else cs j

abbrev pub all_said : ℕ → Tally
all_said n = record { pulled = n; said = n }

abbrev pub one_more : Bool → Tally → Tally
one_more true c = record c { pulled = c.pulled + 1 }
one_more false c = c

-- the tallies, after the answer to an order
abbrev pub tallied : Order → Reply → (frame : List ℕ) → (ℕ → Tally) → ℕ → Tally
tallied (Do e) r frame cs = cs
tallied (PullAll i t) reply.Frame frame cs = with_tally i (one_more (is_stanza frame) (cs i)) cs
tallied (PullAll i t) r frame cs = cs
tallied (AckAll i) r frame cs = with_tally i (all_said (cs i).pulled) cs
tallied (ResumeFrom i fewer t) r frame cs = with_tally i (all_said (from fewer (cs i))) cs

-- what is to be done then
abbrev pub left_after : Order → Reply → List Order → List Order
left_after (PullAll i t) reply.Frame more = PullAll i t ∷ more
left_after o r more = more

abbrev pub answered : (ℕ → Tally) → Order → List Order → Reply → (frame : List ℕ) → Plan
answered cs o more r frame = record { tallies = tallied o r frame cs; left = left_after o r more }

-- A turn is that of the first order, and its answer leaves this plan.
abbrev pub IsAnswered : (ℕ → Tally) → Order → List Order → Outcome → Plan → Type 0
IsAnswered cs o more (Made r frame) next = next ≡ answered cs o more r frame
IsAnswered cs o more Short next = ⊥

abbrev pub IsOrdered : (ℕ → Tally) → List Order → Turn → Plan → Type 0
IsOrdered cs [] x next = ⊥
IsOrdered cs (o ∷ more) x next = (x.event ≡ event_of cs o) × IsAnswered cs o more x.outcome next

-- These turns follow a plan, one order after the other, up to another.
abbrev pub Follows : Plan → List Turn → Plan → Type 0
Follows p [] end = end ≡ p
Follows p (x ∷ more) end = (next : Plan) × IsOrdered p.tallies p.left x next × Follows next more end

-- the history of a drill of n rounds by a key
abbrev pub IsDrill : (n key : ℕ) → List Turn → Type 0
IsDrill n key h = (end : Plan) × Follows (plan n key) h end × (end.left ≡ [])

-- What is written of it.

abbrev pub replied : Outcome → Reply → Bool
replied (Made reply.Done frame) reply.Done = true
replied (Made reply.Frame frame) reply.Frame = true
replied (Made reply.Resumed frame) reply.Resumed = true
replied o r = false

abbrev pub is_act : Event → Bool
is_act (Act i stanza t) = true
is_act e = false

-- a stanza that was acted on
abbrev pub is_done : Turn → Bool
is_done x = if is_act x.event then replied x.outcome reply.Done else false

abbrev pub is_frame : Turn → Bool
is_frame x = replied x.outcome reply.Frame

abbrev pub is_resumed : Turn → Bool
is_resumed x = replied x.outcome reply.Resumed

abbrev pub told : (what : List ℕ) → ℕ → List ℕ
told what n = what ++ codes " " ++ decimal n

-- how many rounds, stanzas that were acted on, frames, resumptions and turns there were
abbrev pub line : (n : ℕ) → List Turn → List ℕ
line n h =
    told (codes "rounds") n ++ told (codes " stanzas") (length (filter is_done h)) ++ told (codes " frames") (length (filter is_frame h))
    ++ told (codes " resumed") (length (filter is_resumed h)) ++ told (codes " turns") (length h) ++ codes "\n"
