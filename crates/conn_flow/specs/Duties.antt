-- What is due on a connection: what its items make due, and what the replies of the house do.
use Rattle.std.specs.Prelude.{◌≡◌, ℕ, ◌+◌, min, nat_le, nat_lt, ◌&&◌, ◌||◌, List, [], ◌∷◌, ◌++◌, take, Bool, true, false, Option, Some, None, if◌then◌else◌}
use Rattle.stream_grammar.specs.grammar.Bounds.{told_number}
use Rattle.stream_grammar.specs.declared.item.Item.{Item}
use Rattle.scram_core.specs.Exchange.{Exchange, challenge_of}
use Rattle.account_book.specs.Lists.{Book}
use Rattle.house_model.specs.declared.event.Event.{Event}
use Rattle.house_model.specs.declared.event.Event.TheVariants as event
use Rattle.house_model.specs.declared.reply.Reply.{Reply}
use Rattle.house_model.specs.declared.reply.Reply.TheVariants as reply
use Rattle.conn_asks.specs.declared.asked.Asked.{Asked}
use Rattle.conn_asks.specs.declared.asked.Asked.TheVariants as asked
use Rattle.conn_asks.specs.declared.ended.Ended.{Ended}
use Rattle.conn_asks.specs.declared.ended.Ended.TheVariants as ended
use Rattle.conn_asks.specs.declared.stream_error.StreamError.{StreamError}
use Rattle.conn_asks.specs.declared.failure.Failure.{Failure}
use Rattle.conn_asks.specs.declared.failure.Failure.TheVariants as failure
use Rattle.conn_asks.specs.declared.login.Exchanging.TheVariants.{Outside, Invited, Challenged}
use Rattle.conn_asks.specs.declared.stage.Stage.{Stage}
use Rattle.conn_asks.specs.declared.stage.Stage.TheVariants.{Login, Logged, Bound}
use Rattle.conn_asks.specs.declared.stage.Purpose.{Purpose}
use Rattle.conn_asks.specs.declared.stage.Purpose.TheVariants.{Challenge, Bind, Enable}
use Rattle.conn_asks.specs.StreamErrors.{error_of, error_text}
use Rattle.conn_asks.specs.Texts.{stream_id, next_id, header_text, login_features_text, features_text, invitation_text}
use Rattle.conn_asks.specs.Texts.{challenge_text, success_text, failure_text, close_tag, refused_resource_text}
use Rattle.conn_asks.specs.Logins.{exchange_of}
use Rattle.conn_asks.specs.Asking.{Asks}

-- where a connection is served
pub record Site : Type 0 where
  pub line : ℕ
  pub domain : List ℕ
  pub accounts : Book

pub data Due : Type 0 where
  -- the house is to be told that a connection came
  Opens : Due
  -- these bytes were heard, and are to be handled
  Rest : (bytes : List ℕ) → Due
  -- this is to be said
  Text : (text : List ℕ) → Due
  -- random bytes are to be drawn: for the id of the first stream, or for a purpose
  Id : Due
  Dice : (purpose : Purpose) → Due
  -- this event is to be entered
  Submits : (event : Event) → Due
  -- the user is to be logged in, and this is to be said of it
  LogsIn : (user text : List ℕ) → Due
  -- one Pull after an event that may have an answer; and those after the items of a reading, with a Sweep where one is due
  PullsOnce : Due
  Pulls : Due
  Sweeps : Due
  -- the connection ends, and is to leave its line; and it left
  Leaves : (ended : Ended) → Due
  Left : (ended : Ended) → Due

pub record Duty : Type 0 where
  pub stage : Stage
  -- the bytes of the present stream that were handled
  pub stream : List ℕ
  -- the id of the first stream, whether there is another now, and whether the header of the present one was said
  pub id : List ℕ
  pub again : Bool
  pub headed : Bool
  -- the items so far, and the logins that failed, up to three
  pub number : ℕ
  pub failures : ℕ
  -- the moment of opening, that of the last reading that heard something, or of opening, and that of the last reading
  pub opened : ℕ
  pub heard : ℕ
  pub moment : ℕ
  -- what is due, in this order
  pub due : List Due
  -- what is still to be sent of what was said
  pub owed : List ℕ

-- the header of the present stream
abbrev pub id_of : List ℕ → Bool → List ℕ
id_of id again = if again then next_id id else id

abbrev pub header_of : Site → Duty → List ℕ
header_of o v = header_text o.domain (id_of v.id v.again)

-- Ends.

-- RFC 6120, 4.9.1.2: before an error the header is said, where it wasn't
abbrev pub unsaid_header : Site → Duty → List ℕ
unsaid_header o v = if v.headed then [] else header_of o v

-- RFC 6120, 4.9.1.1: after an error the stream is closed
abbrev pub error_due : Site → Duty → Option StreamError → Ended → List Due
error_due o v (Some e) ended = Text (unsaid_header o v ++ error_text e ++ close_tag) ∷ Leaves ended ∷ []
error_due o v None ended = Leaves ended ∷ []

-- RFC 6120, 4.4: the close tag is answered by one
abbrev pub end_due : Site → Duty → Ended → List Due
end_due o v ended.Closed = Text close_tag ∷ Leaves ended.Closed ∷ []
end_due o v x = error_due o v (error_of x) x

abbrev pub ends : Site → Duty → Ended → Duty
ends o v x = record v { due = end_due o v x }

-- How long a connection may take.

-- nobody logged in yet
abbrev pub is_unknown : Stage → Bool
is_unknown (Login x) = true
is_unknown (Logged user) = false
is_unknown (Bound user) = false

-- a client has a minute to log in
abbrev pub is_overdue : Stage → (opened t : ℕ) → Bool
is_overdue stage opened t = is_unknown stage && nat_le (opened + 60000) t

-- after that, and after an hour without a byte, the connection is idle (RFC 6120, 4.6.4)
abbrev pub is_idle : Stage → (opened heard t : ℕ) → Bool
is_idle stage opened heard t = is_overdue stage opened t || nat_le (heard + 3600000) t

-- What is due for what an item asks, and then for the rest.

abbrev pub features_of : Stage → List ℕ
features_of (Login x) = login_features_text
features_of (Logged user) = features_text
features_of (Bound user) = features_text

-- RFC 6120, 6.4.5: a failure ends the exchange. Here the third on a connection ends the connection.
abbrev pub after_failure : Site → Duty → List Due → List Due
after_failure o v rest = if nat_lt v.failures 3 then rest else end_due o v ended.ThirdFailure

abbrev pub counts_failure : Duty → Duty
counts_failure v = record v { stage = Login Outside; failures = min (v.failures + 1) 3 }

abbrev pub says_failure : Site → Duty → Failure → List Due → Duty
says_failure o v f rest = record v { due = Text (failure_text f) ∷ after_failure o v rest }

abbrev pub failed : Site → Duty → Failure → List Due → Duty
failed o v f rest = says_failure o (counts_failure v) f rest

-- an event that may have an answer is followed by one pull, so that answers never gather
abbrev pub follows : Event → Bool
follows (event.Bind w id resource t dice) = true
follows (event.Enable w resume dice) = true
follows (event.Resume w id h t) = true
follows (event.Ask w) = true
follows e = false

abbrev pub followed : Event → List Due → List Due
followed e rest = if follows e then PullsOnce ∷ rest else rest

-- random bytes for a challenge are drawn when no exchange is open
abbrev pub stage_for : Purpose → Stage → Stage
stage_for (Challenge m first) stage = Login Outside
stage_for purpose stage = stage

-- what a text of the exchange brings is the end of it, until there is another
abbrev pub asked_due : Site → Duty → Asked → List Due → Duty
asked_due o v asked.Header rest = record v { headed = true; due = Text (header_of o v ++ features_of v.stage) ∷ rest }
asked_due o v (asked.Invite m) rest = record v { stage = Login (Invited m); due = Text invitation_text ∷ rest }
asked_due o v (asked.Fail f) rest = failed o v f rest
asked_due o v (asked.LogIn user success) rest = record v { stage = Login Outside; due = LogsIn user (success_text success) ∷ rest }
asked_due o v (asked.Draw purpose) rest = record v { stage = stage_for purpose v.stage; due = Dice purpose ∷ rest }
asked_due o v (asked.RefuseResource id) rest = record v { due = Text (refused_resource_text id) ∷ rest }
asked_due o v (asked.Submit event) rest = record v { due = Submits event ∷ followed event rest }
asked_due o v (asked.End x) rest = ends o v x

-- items are numbered from 1
abbrev pub numbered : Duty → Duty
numbered v = record v { number = told_number (v.number + 1) }

abbrev pub AsksIf : Site → Duty → Option Item → List Due → Duty → Type 0
AsksIf o v (Some item) rest w =
    (asked : Asked) × Asks o.line o.domain (numbered v).number v.moment v.stage item asked × (w ≡ asked_due o (numbered v) asked rest)
AsksIf o v None rest w = w ≡ record v { due = rest }

-- What random bytes make.

-- of the first 16 the id of the first stream
abbrev pub named : Duty → List ℕ → List Due → Duty
named v dice rest = record v { id = stream_id dice; due = rest }

-- of 18 a nonce, in base64; a binding and an enabling take the first 16
abbrev pub challenged : Duty → Exchange → List Due → Duty
challenged v e rest = record v { stage = Login (Challenged e); due = Text (challenge_text (challenge_of e)) ∷ rest }

abbrev pub drew : Site → Duty → Purpose → List ℕ → List Due → Duty
drew o v (Challenge m first) dice rest = challenged v (exchange_of o.accounts m first dice) rest
drew o v (Bind id resource) dice rest = record v { due = Submits (event.Bind o.line id resource v.moment (take 16 dice)) ∷ PullsOnce ∷ rest }
drew o v (Enable resume) dice rest = record v { due = Submits (event.Enable o.line resume (take 16 dice)) ∷ PullsOnce ∷ rest }

-- What a reply makes due; want of memory is None.

abbrev pub bound : Stage → Stage
bound (Logged user) = Bound user
bound stage = stage

-- a session is held from then on
abbrev pub stage_after : Reply → Stage → Stage
stage_after reply.Bound stage = bound stage
stage_after reply.Resumed stage = bound stage
stage_after r stage = stage

-- after an event that an item asked for
abbrev pub answered : Site → Duty → Option Reply → List Due → Duty
answered o v (Some (reply.Over cause)) rest = ends o v (ended.Over cause)
answered o v (Some r) rest = record v { stage = stage_after r v.stage; due = rest }
answered o v None rest = record v { due = Leaves ended.NoMemory ∷ [] }

-- RFC 6120, 6.4.6: after a login a new stream begins
abbrev pub logged_in : Duty → List ℕ → List ℕ → List Due → Duty
logged_in v user text rest = record v { stage = Logged user; stream = []; again = true; headed = false; due = Text text ∷ rest }

-- a user whom the house doesn't know is not logged in
abbrev pub answered_login : Site → Duty → List ℕ → List ℕ → Option Reply → List Due → Duty
answered_login o v user text (Some reply.Done) rest = logged_in v user text rest
answered_login o v user text (Some (reply.Over cause)) rest = ends o v (ended.Over cause)
answered_login o v user text (Some r) rest = failed o v failure.NotAuthorized rest
answered_login o v user text None rest = record v { due = Leaves ended.NoMemory ∷ [] }

-- after the pull that follows an event
abbrev pub pulled_once : Site → Duty → Option Reply → List Due → Duty
pulled_once o v (Some (reply.Over cause)) rest = ends o v (ended.Over cause)
pulled_once o v r rest = record v { due = rest }

-- pulls go on as long as frames come; where none is left a session may be due to be swept
abbrev pub pulled : Site → Duty → Option Reply → Duty
pulled o v (Some reply.Frame) = record v { due = Pulls ∷ [] }
pulled o v (Some (reply.Nothing due)) = record v { due = if due then Sweeps ∷ [] else [] }
pulled o v (Some (reply.Over cause)) = ends o v (ended.Over cause)
pulled o v r = record v { due = [] }

-- a sweep that found no memory leaves the session to a later one
abbrev pub swept : Duty → Option Reply → Duty
swept v (Some r) = record v { due = Pulls ∷ [] }
swept v None = record v { due = [] }

-- RFC 6120, 4.4: a connection that was closed by its client closes its line, and every other drops it
abbrev pub last_event : Site → Duty → Ended → Event
last_event o v ended.Closed = event.CloseLine o.line v.moment
last_event o v x = event.DropLine o.line v.moment
