-- How a connection at a place begins, and how it goes on.
use Rattle.std.specs.Prelude.{◌≡◌, ℕ, List, ◌∷◌, [], Bool, Option, Some, None, Result, Ok, Err}
use Rattle.outside.specs.Tapes.{Tells}
use Rattle.conn_asks.specs.declared.ended.Ended.{Ended}
use Rattle.conn_asks.specs.declared.ended.Ended.TheVariants as ended
use Rattle.conn_flow.specs.declared.want.Want.{Want}
use Rattle.conn_flow.specs.declared.want.Want.TheVariants as want
use Rattle.conn_flow.specs.Duties.{Duty, Site}
use Rattle.conn_flow.specs.Flows.{State}
use Rattle.conn_flow.specs.Following.{opening}
use Rattle.conn_serve.specs.declared.round.Conn.{Conn}
use Rattle.conn_serve.specs.declared.turn.End.{End}
use Rattle.conn_serve.specs.Serving.{Came, Concluded, Tale, marked_end}

-- it stands somewhere, or was over before it left its line
abbrev pub GoesOrEnds : Site → Tale → Duty → Tale → State → (ahead owed : List ℕ) → Option End → Type 0
GoesOrEnds o a v b flow ahead owed None = Came o a v b flow ahead owed
GoesOrEnds o a v b flow ahead owed (Some end) = Concluded o a v b end

abbrev pub marked_round : Option End → Bool → Bool
marked_round None marked = marked
marked_round (Some end) marked = marked_end end marked

-- it was begun, or was over at once
abbrev pub Named : Site → Tale → Duty → Tale → Result Conn End → Type 0
Named o a v b (Ok conn) = Came o a v b conn.flow conn.ears conn.left
Named o a v b (Err end) = Concluded o a v b end

abbrev pub marked_start : Result Conn End → Bool → Bool
marked_start (Ok conn) marked = marked
marked_start (Err end) marked = marked_end end marked

-- it came at a moment, and went on from there
abbrev pub Began : Site → (before : Option (List ℕ)) → Tale → Tale → Result Conn End → Type 0
Began o before a b result = (opened : ℕ) × Tells ℕ before a.told.moments (opened ∷ []) × Named o a (opening o opened) b result

-- where it goes on no more, its flow is over and ends so, or it ends as where memory is wanting
abbrev pub EndsWanting : Want → Ended → Type 0
EndsWanting (want.Finish x) y = y ≡ x
EndsWanting (want.Say text) y = y ≡ ended.NoMemory
EndsWanting (want.Submit e) y = y ≡ ended.NoMemory
EndsWanting want.NeedDice y = y ≡ ended.NoMemory
EndsWanting want.Await y = y ≡ ended.NoMemory
