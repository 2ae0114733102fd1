-- Why a flow wants what it wants.
use Rattle.std.specs.Prelude.{◌≡◌, ◌⊎◌, Bool, true, false, Option, Some, None}
use Rattle.stream_grammar.specs.machine.Reading.{is_ready, waiting}
use Rattle.stream_grammar.specs.declared.item.Item.{Item}
use Rattle.house_model.specs.declared.reply.Reply.{Reply}
use Rattle.house_model.specs.declared.reply.Reply.TheVariants as reply
use Rattle.conn_asks.specs.declared.asked.Asked.TheVariants as asked
use Rattle.conn_asks.specs.declared.ended.Ended.{Ended}
use Rattle.conn_asks.specs.declared.ended.Ended.TheVariants as ended
use Rattle.conn_asks.specs.declared.stage.Purpose.{Purpose}
use Rattle.conn_asks.specs.Asking.{Asks}
use Rattle.conn_flow.specs.declared.phase.Phase.{Phase}
use Rattle.conn_flow.specs.declared.phase.Phase.TheVariants.{Resting, Heard, Drawing, Entered, PullingOnce, Pulling, Sweeping, Parting, Left}
use Rattle.conn_flow.specs.declared.talk.Talk.{Talk}
use Rattle.conn_flow.specs.declared.want.Want.{Want}
use Rattle.conn_flow.specs.declared.want.Want.TheVariants.{Say, Await, Finish}
use Rattle.conn_flow.specs.Flows.{IsToldAll, State, asked_by, counted}

-- the end that stands, whether its last text was said or not
abbrev pub end_at : Phase → Option Ended
end_at (Parting x) = Some x
end_at (Left x) = Some x
end_at phase = None

-- Waiting.

-- every byte that was heard is handled, and nothing is left to be done
abbrev pub IsIdle : State → Type 0
IsIdle s = (s.talk.phase ≡ Resting) × (is_ready s.fed.reading ≡ true)

-- A reply that leaves nothing to be done: to a pull none but a frame, an end, or that a session is due to be swept; and to the last event of an
-- item any but an end, where more was read than was heard.
abbrev pub LeavesNothing : Bool → Phase → Reply → Type 0
LeavesNothing more phase (reply.Over cause) = ⊥
LeavesNothing more Pulling reply.Frame = ⊥
LeavesNothing more Pulling (reply.Nothing due) = due ≡ false
LeavesNothing more Pulling r = Unit {0}
LeavesNothing more PullingOnce r = more ≡ true
LeavesNothing more (Entered pulls) r = (pulls ≡ false) × (more ≡ true)
LeavesNothing more phase r = ⊥

-- After a want nothing is left to be done exactly where the flow waits, and no event waits for its reply; or where it said a text, no end stands, and
-- more was read than was heard.
abbrev pub RestsBy : Phase → Talk → Want → Type 0
RestsBy before s Await = IsToldAll before
RestsBy before s (Say text) = (s.more ≡ true) × (end_at s.phase ≡ None)
RestsBy before s want = ⊥

-- Random bytes.

-- the item that is handled asks for random bytes: for a challenge, a binding, or the enabling of stream management
abbrev pub AsksDice : State → State → Type 0
AsksDice s s' =
    (i : Item) × (purpose : Purpose) × (s.talk.phase ≡ Heard) × (waiting s.fed.reading ≡ Some i)
    × Asks s.talk.line s.talk.domain (counted s.talk).number s.talk.moment s.talk.stage i (asked.Draw purpose)
    × (s'.talk ≡ asked_by (counted s.talk) (asked.Draw purpose))

-- or one asked for them before, and they are still to come
abbrev pub NeedsDice : State → State → Type 0
NeedsDice s s' = (s.talk.phase ≡ Drawing) ⊎ AsksDice s s'

-- The end.

-- its last text, if it has one, is still to be said
abbrev pub SpeaksOn : Phase → Type 0
SpeaksOn (Left x) = ⊥
SpeaksOn phase = Unit {0}

-- a flow finishes exactly where an end stands and it says nothing more
abbrev pub Finishes : Phase → Want → Option Ended → Type 0
Finishes before (Finish x) end = end ≡ Some x
Finishes before (Say text) end = SpeaksOn before
Finishes before want end = end ≡ None

-- what the items of a client end it with: the close tag, a fault of the stream, of the header or of an item, and the third failed login
abbrev pub IsByItem : Ended → Type 0
IsByItem ended.Closed = Unit {0}
IsByItem (ended.Broken f k) = Unit {0}
IsByItem (ended.BadHeader f) = Unit {0}
IsByItem (ended.BadItem f n) = Unit {0}
IsByItem ended.ThirdFailure = Unit {0}
IsByItem x = ⊥

-- a want leaves the end that stands, and where none stands it makes none but by an item
abbrev pub EndsBy : Option Ended → Option Ended → Type 0
EndsBy (Some x) after = after ≡ Some x
EndsBy None (Some x) = IsByItem x
EndsBy None None = Unit {0}

-- a reply makes the end that it tells, but for that to a sweep, after which the pulls go on
abbrev pub end_by : Phase → Reply → Option Ended
end_by Sweeping r = None
end_by phase (reply.Over cause) = Some (ended.Over cause)
end_by phase r = None

-- an end of a flow: faults of link and dice, and want of turns, are met by whoever serves it
abbrev pub IsOwn : Ended → Type 0
IsOwn ended.LinkFault = ⊥
IsOwn ended.DiceFault = ⊥
IsOwn ended.Spent = ⊥
IsOwn x = Unit {0}

abbrev pub IsOwnIf : Option Ended → Type 0
IsOwnIf (Some x) = IsOwn x
IsOwnIf None = Unit {0}

abbrev pub FinishesOwn : Want → Type 0
FinishesOwn (Finish x) = IsOwn x
FinishesOwn want = Unit {0}
