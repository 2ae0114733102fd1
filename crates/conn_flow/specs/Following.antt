-- What a connection may say and enter: each move is the next thing that is due.
use Rattle.std.specs.Prelude.{◌≡◌, ◌≢◌, ◌⊎◌, ℕ, List, [], ◌∷◌, ◌++◌, length, Bool, true, false, Option, Some, None, if◌then◌else◌}
use Rattle.outside.specs.Tapes.{Mark, Tells}
use Rattle.house_model.specs.Histories.{Turn, Outcome, Made, Short}
use Rattle.house_model.specs.declared.event.Event.{Event}
use Rattle.house_model.specs.declared.event.Event.TheVariants as event
use Rattle.house_model.specs.declared.reply.Reply.{Reply}
use Rattle.conn_asks.specs.declared.ended.Ended.{Ended}
use Rattle.conn_asks.specs.declared.ended.Ended.TheVariants as ended
use Rattle.conn_asks.specs.declared.login.Exchanging.TheVariants.{Outside}
use Rattle.conn_asks.specs.declared.stage.Stage.TheVariants.{Login}
use Rattle.conn_flow.specs.Streams.{cut}
use Rattle.conn_flow.specs.Moves.{Move, Hears, Waits, Hangs, Fails, Takes, Says, Sends, Enters, Draws, Stops, marks, moments, turns, draws}
use Rattle.conn_flow.specs.Duties.{Site, Due, Opens, Rest, Text, Id, Dice, Submits, LogsIn, PullsOnce, Pulls, Sweeps, Leaves, Left, Duty, AsksIf}
use Rattle.conn_flow.specs.Duties.{ends, is_idle, is_overdue, named, drew, answered, answered_login, pulled_once, pulled, swept, last_event}

-- what is due after the items of some bytes: the items of the rest, and where there is none the pulls
abbrev pub rest_due : List ℕ → List Due
rest_due [] = Pulls ∷ []
rest_due (b ∷ bytes) = Rest (b ∷ bytes) ∷ []

-- the first item that ends in the bytes is handled
abbrev pub Handles : Site → Duty → List ℕ → Duty → Type 0
Handles o v bytes w = AsksIf o (record v { stream = (cut v.stream bytes).stream }) (cut v.stream bytes).item (rest_due (cut v.stream bytes).rest) w

abbrev pub TakesDue : Site → Duty → List Due → Duty → Type 0
TakesDue o v (Rest bytes ∷ rest) w = Handles o v bytes w
TakesDue o v due w = ⊥

-- bytes that come are handled, but where it is too late for a login
abbrev pub bytes_came : Site → Duty → List ℕ → ℕ → Duty
bytes_came o v bytes t =
    if is_overdue v.stage v.opened t then ends o (record v { moment = t }) (ended.Idle t) else record v { heard = t; moment = t; due = Rest bytes ∷ [] }

-- where none came, all that waits is pulled
abbrev pub waited : Site → Duty → ℕ → Duty
waited o v t =
    if is_idle v.stage v.opened v.heard t then ends o (record v { moment = t }) (ended.Idle t) else record v { moment = t; due = Pulls ∷ [] }

abbrev pub reply_of : Outcome → Option Reply
reply_of (Made reply text) = Some reply
reply_of Short = None

-- the text of a frame
abbrev pub text_of : Outcome → List ℕ
text_of (Made reply text) = text
text_of Short = []

-- the event that is due, and what is due after the reply; before the last one all is sent
abbrev pub EntersDue : Site → Duty → List Due → Event → Option Reply → Duty → Type 0
EntersDue o v (Opens ∷ rest) e r w = (e ≡ event.OpenLine o.line) × (w ≡ record v { due = rest })
EntersDue o v (Submits event ∷ rest) e r w = (e ≡ event) × (w ≡ answered o v r rest)
EntersDue o v (LogsIn user text ∷ rest) e r w = (e ≡ event.Login o.line user) × (w ≡ answered_login o v user text r rest)
EntersDue o v (PullsOnce ∷ rest) e r w = (e ≡ event.Pull o.line v.moment) × (w ≡ pulled_once o v r rest)
EntersDue o v (Pulls ∷ rest) e r w = (e ≡ event.Pull o.line v.moment) × (w ≡ pulled o v r)
EntersDue o v (Sweeps ∷ rest) e r w = (e ≡ event.Sweep o.line v.moment) × (w ≡ swept v r)
EntersDue o v (Leaves ended ∷ rest) e r w = (v.owed ≡ []) × (e ≡ last_event o v ended) × (w ≡ record v { due = Left ended ∷ [] })
EntersDue o v due e r w = ⊥

abbrev pub DrawsDue : Site → Duty → List Due → List ℕ → Duty → Type 0
DrawsDue o v (Id ∷ rest) dice w = (length dice ≡ 16) × (w ≡ named v dice rest)
DrawsDue o v (Dice purpose ∷ rest) dice w = (length dice ≡ 18) × (w ≡ drew o v purpose dice rest)
DrawsDue o v due dice w = ⊥

abbrev pub SaysDue : Duty → List Due → List ℕ → Duty → Type 0
SaysDue v (Text said ∷ rest) text w = (text ≡ said) × (w ≡ record v { due = rest; owed = v.owed ++ text })
SaysDue v due text w = ⊥

-- Ends that come from no reading, item or reply.

abbrev pub draws_next : List Due → Bool
draws_next (Id ∷ rest) = true
draws_next (Dice purpose ∷ rest) = true
draws_next due = false

abbrev pub enters_next : List Due → Bool
enters_next (Opens ∷ rest) = true
enters_next (Submits event ∷ rest) = true
enters_next (LogsIn user text ∷ rest) = true
enters_next (PullsOnce ∷ rest) = true
enters_next (Pulls ∷ rest) = true
enters_next (Sweeps ∷ rest) = true
enters_next (Leaves ended ∷ rest) = true
enters_next due = false

-- the house was told of the connection, and it has not ended
abbrev pub goes_on : List Due → Bool
goes_on (Opens ∷ rest) = false
goes_on (Leaves ended ∷ rest) = false
goes_on (Left ended ∷ rest) = false
goes_on due = true

-- no random bytes where they are due, no turn where an event is due; no memory at any time while the connection goes on or something is to
-- be sent. What is to be sent then stays unsaid.
abbrev pub Stopped : Duty → Ended → Duty → Type 0
Stopped v ended.NoMemory w = ((goes_on v.due ≡ true) ⊎ (v.owed ≢ [])) × (w ≡ record v { due = Leaves ended.NoMemory ∷ []; owed = [] })
Stopped v ended.DiceFault w = (draws_next v.due ≡ true) × (w ≡ record v { due = Leaves ended.DiceFault ∷ []; owed = [] })
Stopped v ended.Spent w = (enters_next v.due ≡ true) × (w ≡ record v { due = Left ended.Spent ∷ []; owed = [] })
Stopped v x w = ⊥

-- One move. What is said and the texts of frames gather until they are sent, which they are before the link is read again. A fault of the
-- link may come while something is to be sent, and leaves it unsaid.
abbrev pub GoesOn : Site → Duty → Move → Duty → Type 0
GoesOn o v (Hears bytes t) w = (v.owed ≡ []) × (v.due ≡ []) × (bytes ≢ []) × (w ≡ bytes_came o v bytes t)
GoesOn o v (Waits t) w = (v.owed ≡ []) × (v.due ≡ []) × (w ≡ waited o v t)
GoesOn o v (Hangs t) w = (v.owed ≡ []) × (v.due ≡ []) × (w ≡ ends o (record v { moment = t }) ended.Hung)
GoesOn o v (Fails t) w = ((v.due ≡ []) ⊎ (v.owed ≢ [])) × (w ≡ record v { moment = t; due = Leaves ended.LinkFault ∷ []; owed = [] })
GoesOn o v Takes w = TakesDue o v v.due w
GoesOn o v (Says text) w = SaysDue v v.due text w
GoesOn o v (Sends bytes) w = (bytes ≢ []) × (v.owed ≡ bytes ++ w.owed) × (w ≡ record v { owed = w.owed })
GoesOn o v (Enters turn) w =
    (next : Duty) × EntersDue o v v.due turn.event (reply_of turn.outcome) next × (w ≡ record next { owed = v.owed ++ text_of turn.outcome })
GoesOn o v (Draws dice) w = DrawsDue o v v.due dice w
GoesOn o v (Stops x) w = Stopped v x w

abbrev pub GoesThrough : Site → Duty → List Move → Duty → Type 0
GoesThrough o v [] w = w ≡ v
GoesThrough o v (m ∷ more) w = (mid : Duty) × GoesOn o v m mid × GoesThrough o mid more w

-- a connection that came at a moment: it is to be told to the house, and its first stream needs an id
abbrev pub opening : Site → ℕ → Duty
opening o t = record {
  stage = Login Outside;
  stream = [];
  id = [];
  again = false;
  headed = false;
  number = 0;
  failures = 0;
  opened = t;
  heard = t;
  moment = t;
  due = Opens ∷ Id ∷ [];
  owed = [];
}

-- what is told of a connection: the marks of its link, its own turns, the moments of its clock and the draws of its dice
pub record Told : Type 0 where
  pub tape : Option (List Mark)
  pub turns : List Turn
  pub moments : Option (List ℕ)
  pub drawn : Option (List (List ℕ))

-- A whole connection, from one telling to the next: there are moves from its opening to its end of which each tells its part.
pub record Follows (o : Site) (a b : Told) (ended : Ended) : Type 0 where
  pub opened : ℕ
  pub moves : List Move
  pub last : Duty
  pub through : GoesThrough o (opening o opened) moves last
  pub left : last.due ≡ Left ended ∷ []
  pub sent : last.owed ≡ []
  pub tape : Tells Mark a.tape b.tape (marks moves)
  pub turns_are : b.turns ≡ a.turns ++ turns moves
  pub moments_are : Tells ℕ a.moments b.moments (opened ∷ moments moves)
  pub drawn : Tells (List ℕ) a.drawn b.drawn (draws moves)
