-- A flow in its connection: what is due where it stands.
use Rattle.std.specs.Prelude.{◌≡◌, ℕ, List, [], ◌∷◌, ◌++◌, take, Bool, true, false, Option, Some, None}
use Rattle.stream_grammar.specs.machine.Reading.{Reading, first_reading, handed, is_ready, is_stopped, reading_after, taken, went}
use Rattle.house_model.specs.declared.event.Event.{Event}
use Rattle.house_model.specs.Histories.{IdFits, Meets, line_of}
use Rattle.conn_asks.specs.Texts.{failure_text}
use Rattle.conn_asks.specs.declared.stage.Purpose.{Purpose}
use Rattle.conn_asks.specs.declared.stage.Purpose.TheVariants.{Bind}
use Rattle.conn_flow.specs.declared.phase.Phase.{Phase}
use Rattle.conn_flow.specs.declared.phase.Phase.TheVariants.{Resting, Heard, Saying, Refusing, Drawing, Drawn, Entering, Entered, LoggingIn}
use Rattle.conn_flow.specs.declared.phase.Phase.TheVariants.{LoggedIn, PullingOnce, Pulling, Sweeping, Parting, Left}
use Rattle.conn_flow.specs.declared.talk.Talk.{Talk}
use Rattle.stream_frames.specs.Limits.{limits}
use Rattle.conn_flow.specs.Duties.{Site, Due, Rest, Text, Dice, Submits, LogsIn, PullsOnce, Pulls, Sweeps, Leaves, Duty, after_failure, drew, end_due, followed}
use Rattle.conn_flow.specs.Following.{rest_due}
use Rattle.conn_flow.specs.Flows.{State, IsLoaded, IsToldAll}

-- a flow, the bytes of the present stream that were handled, those that it heard since, those that were read and are still to be heard, and
-- what is still to be sent of what was said
pub record Place : Type 0 where
  pub flow : State
  pub stream : List ℕ
  pub front : List ℕ
  pub ahead : List ℕ
  pub owed : List ℕ

-- what is due where the flow waits for more
abbrev pub idle : List ℕ → List Due
idle [] = []
idle (b ∷ bytes) = Rest (b ∷ bytes) ∷ []

abbrev pub purpose_due : Option Purpose → List Due → List Due
purpose_due (Some purpose) rest = Dice purpose ∷ rest
purpose_due None rest = rest

abbrev pub event_due : Option Event → List Due → List Due
event_due (Some event) rest = Submits event ∷ followed event rest
event_due None rest = rest

abbrev pub login_due : Option (List ℕ) → List ℕ → List Due → List Due
login_due (Some user) text rest = LogsIn user text ∷ rest
login_due None text rest = rest

-- what the flow knows, and what is due
abbrev pub known : Talk → List ℕ → List ℕ → List Due → Duty
known s stream owed due = record {
  stage = s.stage;
  stream = stream;
  id = s.id;
  again = s.again;
  headed = s.headed;
  number = s.number;
  failures = s.failures;
  opened = s.opened;
  heard = s.heard;
  moment = s.moment;
  due = due;
  owed = owed;
}

-- after an event that was handed over nothing is due until the reply
abbrev pub due_at : Site → Duty → Talk → List ℕ → List ℕ → Phase → List Due
due_at o v s front ahead Resting = idle ahead
due_at o v s front ahead Heard = Rest (front ++ ahead) ∷ []
due_at o v s front ahead Saying = Text s.text ∷ rest_due ahead
due_at o v s front ahead (Refusing f) = Text (failure_text f) ∷ after_failure o v (rest_due ahead)
due_at o v s front ahead Drawing = purpose_due s.purpose (rest_due ahead)
due_at o v s front ahead (Drawn dice) = []
due_at o v s front ahead Entering = event_due s.event (rest_due ahead)
due_at o v s front ahead (Entered pulls) = []
due_at o v s front ahead LoggingIn = login_due s.user s.text (rest_due ahead)
due_at o v s front ahead LoggedIn = []
due_at o v s front ahead PullingOnce = PullsOnce ∷ rest_due ahead
due_at o v s front ahead Pulling = Pulls ∷ []
due_at o v s front ahead Sweeping = Sweeps ∷ []
due_at o v s front ahead (Parting x) = end_due o v x
due_at o v s front ahead (Left x) = Leaves x ∷ []

abbrev pub drew_if : Site → Duty → Option Purpose → List ℕ → List Due → Duty
drew_if o v (Some purpose) dice rest = drew o v purpose dice rest
drew_if o v None dice rest = v

abbrev pub duty_at : Site → Talk → List ℕ → List ℕ → List ℕ → List ℕ → Phase → Duty
duty_at o s stream front ahead owed (Drawn dice) = drew_if o (known s stream owed []) s.purpose dice (rest_due ahead)
duty_at o s stream front ahead owed phase = known s stream owed (due_at o (known s stream owed []) s front ahead phase)

-- what is due at a place
abbrev pub duty : Site → Place → Duty
duty o p = duty_at o p.flow.talk p.stream p.front p.ahead p.owed p.flow.talk.phase

-- How what was read stands to the bytes.

abbrev pub is_some_byte : List ℕ → Bool
is_some_byte [] = false
is_some_byte (b ∷ bytes) = true

-- the flow has read these bytes of the stream, and each item was handed out
pub record IsRead (reading : Reading) (stream : List ℕ) : Type 0 where
  pub at : reading ≡ handed (went limits first_reading stream)
  pub ready : is_ready reading ≡ true
  pub goes : is_stopped reading ≡ false

-- a front of what was read since was heard, up to its first item
pub record IsHeard (reading : Reading) (stream front ahead : List ℕ) : Type 0 where
  pub before : Reading
  pub was : IsRead before stream
  pub front_is : front ≡ take (taken limits before (front ++ ahead)) (front ++ ahead)
  pub now : reading ≡ reading_after limits before front

pub record IsDone (reading : Reading) (stream front : List ℕ) : Type 0 where
  pub none : front ≡ []
  pub read : IsRead reading stream

abbrev pub IsReadAt : Phase → Reading → List ℕ → List ℕ → List ℕ → Type 0
IsReadAt Heard reading stream front ahead = IsHeard reading stream front ahead
IsReadAt (Parting x) reading stream front ahead = Unit {0}
IsReadAt (Left x) reading stream front ahead = Unit {0}
IsReadAt phase reading stream front ahead = IsDone reading stream front

-- pulls come when all is heard
abbrev pub IsAllHeard : Phase → List ℕ → Type 0
IsAllHeard Pulling ahead = ahead ≡ []
IsAllHeard Sweeping ahead = ahead ≡ []
IsAllHeard phase ahead = Unit {0}

abbrev pub IsTimed : List ℕ → ℕ → ℕ → Type 0
IsTimed [] heard moment = Unit {0}
IsTimed (b ∷ bytes) heard moment = heard ≡ moment

-- what the house is told is of the line, and meets its conditions

abbrev pub IsFitAt : ℕ → Event → Type 0
IsFitAt line event = Meets event × (line_of event ≡ line)

abbrev pub IsFit : ℕ → Option Event → Type 0
IsFit line (Some event) = IsFitAt line event
IsFit line None = Unit {0}

abbrev pub IsFitFor : Option Purpose → Type 0
IsFitFor (Some (Bind id resource)) = IdFits id
IsFitFor purpose = Unit {0}

-- a flow that is served at a site
pub record IsServed (o : Site) (p : Place) : Type 0 where
  pub told : IsToldAll p.flow.talk.phase
  pub loaded : IsLoaded p.flow.talk p.flow.talk.phase
  pub event_fits : IsFit o.line p.flow.talk.event
  pub purpose_fits : IsFitFor p.flow.talk.purpose
  pub line : p.flow.talk.line ≡ o.line
  pub domain : p.flow.talk.domain ≡ o.domain
  pub limits_are : p.flow.fed.limits ≡ limits
  pub more : p.flow.talk.more ≡ is_some_byte p.ahead
  pub read : IsReadAt p.flow.talk.phase p.flow.fed.reading p.stream p.front p.ahead
  pub all : IsAllHeard p.flow.talk.phase p.ahead
  pub timed : IsTimed p.ahead p.flow.talk.heard p.flow.talk.moment
