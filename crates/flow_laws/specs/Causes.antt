-- What ends a connection: the move that makes each end.
use Rattle.std.specs.Prelude.{◌≡◌, ◌⊎◌, true, ℕ, ◌+◌, ◌≤◌, List, ◌∷◌, ◌++◌, Some}
use Rattle.house_model.specs.Histories.{Made, Short}
use Rattle.house_model.specs.declared.reply.Reply.TheVariants as reply
use Rattle.stream_grammar.specs.declared.item.Item.{Item}
use Rattle.conn_asks.specs.declared.asked.Asked.TheVariants as asked
use Rattle.conn_asks.specs.declared.ended.Ended.{Ended}
use Rattle.conn_asks.specs.declared.ended.Ended.TheVariants as ended
use Rattle.conn_asks.specs.Asking.{Asks}
use Rattle.conn_flow.specs.Streams.{cut}
use Rattle.conn_flow.specs.Moves.{Move, Hears, Waits, Hangs, Fails, Takes, Enters, Stops}
use Rattle.conn_flow.specs.Duties.{Site, Due, Rest, Duty, is_unknown, numbered}
use Rattle.conn_flow.specs.Following.{GoesOn, GoesThrough, opening}

-- the item that is handled next asks for this end
abbrev pub AsksEnd : Site → Duty → Ended → Type 0
AsksEnd o v x =
    (bytes : List ℕ) × (rest : List Due) × (i : Item) × (v.due ≡ Rest bytes ∷ rest) × ((cut v.stream bytes).item ≡ Some i)
    × Asks o.line o.domain (numbered v).number v.moment v.stage i (asked.End x)

-- a login fails, where two failed before
abbrev pub IsThird : Site → Duty → Duty → Type 0
IsThird o v w = (2 ≤ v.failures) × (w.failures ≡ 3)

-- nobody logged in within a minute
abbrev pub IsOverdue : Duty → ℕ → Type 0
IsOverdue v t = (is_unknown v.stage ≡ true) × (v.opened + 60000 ≤ t)

-- the move that makes an end
abbrev pub Makes : Site → Duty → Move → Duty → Ended → Type 0
Makes o v (Hangs t) w ended.Hung = Unit {0}
Makes o v (Fails t) w ended.LinkFault = Unit {0}
Makes o v (Stops x) w ended.DiceFault = x ≡ ended.DiceFault
Makes o v (Stops x) w ended.Spent = x ≡ ended.Spent
Makes o v (Stops x) w ended.NoMemory = x ≡ ended.NoMemory
Makes o v (Enters turn) w ended.NoMemory = turn.outcome ≡ Short
Makes o v (Hears bytes t) w (ended.Idle u) = (u ≡ t) × IsOverdue v t
Makes o v (Waits t) w (ended.Idle u) = (u ≡ t) × (IsOverdue v t ⊎ (v.heard + 3600000 ≤ t))
Makes o v (Enters turn) w (ended.Over cause) = (text : List ℕ) × (turn.outcome ≡ Made (reply.Over cause) text)
Makes o v Takes w ended.ThirdFailure = IsThird o v w
Makes o v (Enters turn) w ended.ThirdFailure = IsThird o v w
Makes o v Takes w ended.Closed = AsksEnd o v ended.Closed
Makes o v Takes w (ended.Broken f k) = AsksEnd o v (ended.Broken f k)
Makes o v Takes w (ended.BadHeader f) = AsksEnd o v (ended.BadHeader f)
Makes o v Takes w (ended.BadItem f n) = AsksEnd o v (ended.BadItem f n)
Makes o v m w x = ⊥

-- some move of a connection makes its end
pub record IsCaused (o : Site) (opened : ℕ) (moves : List Move) (ended : Ended) : Type 0 where
  pub before : List Move
  pub move : Move
  pub after : List Move
  pub split : moves ≡ before ++ move ∷ after
  pub from : Duty
  pub to : Duty
  pub came : GoesThrough o (opening o opened) before from
  pub goes : GoesOn o from move to
  pub makes : Makes o from move to ended

-- Where nothing else makes an end, the client does.

-- an end that its client doesn't ask for, and that no want of memory makes
abbrev pub IsForced : Ended → Type 0
IsForced ended.Closed = ⊥
IsForced ended.NoMemory = ⊥
IsForced x = Unit {0}

-- no move of a connection makes this end
abbrev pub MakesNone : Site → ℕ → List Move → Ended → Type 0
MakesNone o opened moves x =
    (before : List Move) (m : Move) (after : List Move) (from to : Duty) → moves ≡ before ++ m ∷ after → GoesThrough o (opening o opened) before from
    → GoesOn o from m to → Makes o from m to x → ⊥
