-- What a flow knows, what it wants, and what the answers to that make of it.
use Rattle.std.specs.Prelude.{◌≡◌, ℕ, ◌+◌, min, nat_lt, List, [], ◌++◌, take, length, Bool, true, false, Option, Some, None, if◌then◌else◌}
use Rattle.stream_frames.specs.Fed.{Fed}
use Rattle.stream_grammar.specs.machine.Reading.{Reading, first_reading, handed, is_ready, reading_after, taken, waiting}
use Rattle.stream_grammar.specs.grammar.Bounds.{told_number}
use Rattle.stream_grammar.specs.declared.item.Item.{Item}
use Rattle.scram_core.specs.Exchange.{Exchange, challenge_of}
use Rattle.account_book.specs.Lists.{Book}
use Rattle.house_model.specs.declared.event.Event.{Event}
use Rattle.house_model.specs.declared.event.Event.TheVariants as event
use Rattle.house_model.specs.declared.reply.Reply.{Reply}
use Rattle.house_model.specs.declared.reply.Reply.TheVariants as reply
use Rattle.conn_asks.specs.declared.asked.Asked.{Asked}
use Rattle.conn_asks.specs.declared.asked.Asked.TheVariants as asked
use Rattle.conn_asks.specs.declared.ended.Ended.{Ended}
use Rattle.conn_asks.specs.declared.ended.Ended.TheVariants as ended
use Rattle.conn_asks.specs.declared.failure.Failure.{Failure}
use Rattle.conn_asks.specs.declared.failure.Failure.TheVariants as failure
use Rattle.conn_asks.specs.declared.stream_error.StreamError.{StreamError}
use Rattle.conn_asks.specs.declared.login.Exchanging.TheVariants.{Outside, Invited, Challenged}
use Rattle.conn_asks.specs.declared.stage.Stage.{Stage}
use Rattle.conn_asks.specs.declared.stage.Stage.TheVariants.{Bound, Login, Logged}
use Rattle.conn_asks.specs.declared.stage.Purpose.{Purpose}
use Rattle.conn_asks.specs.declared.stage.Purpose.TheVariants.{Challenge, Bind, Enable}
use Rattle.conn_asks.specs.StreamErrors.{error_of, error_text}
use Rattle.conn_asks.specs.Texts.{stream_id, header_text, invitation_text, challenge_text, success_text, failure_text, close_tag, refused_resource_text}
use Rattle.conn_asks.specs.Logins.{exchange_of}
use Rattle.conn_asks.specs.Asking.{Asks}
use Rattle.conn_flow.specs.declared.phase.Phase.{Phase}
use Rattle.conn_flow.specs.declared.phase.Phase.TheVariants.{Resting, Heard, Saying, Refusing, Drawing, Drawn, Entering, Entered, LoggingIn}
use Rattle.conn_flow.specs.declared.phase.Phase.TheVariants.{LoggedIn, PullingOnce, Pulling, Sweeping, Parting, Left}
use Rattle.conn_flow.specs.declared.talk.Talk.{Talk}
use Rattle.conn_flow.specs.declared.want.Want.{Want}
use Rattle.conn_flow.specs.declared.want.Want.TheVariants.{Say, Submit, NeedDice, Await, Finish}
use Rattle.stream_frames.specs.Limits.{limits}
use Rattle.conn_flow.specs.Duties.{features_of, follows, id_of, is_idle, is_overdue, stage_after, stage_for}

-- who logged in, if anybody did
abbrev pub logged_user : Stage → Option (List ℕ)
logged_user (Login x) = None
logged_user (Logged user) = Some user
logged_user (Bound user) = Some user

-- a flow is what it reads and what it knows
pub record State : Type 0 where
  pub fed : Fed
  pub talk : Talk

abbrev pub fresh_talk : ℕ → List ℕ → List ℕ → ℕ → Talk
fresh_talk w domain id t = record {
  line = w;
  domain = domain;
  stage = Login Outside;
  id = id;
  again = false;
  headed = false;
  number = 0;
  failures = 0;
  opened = t;
  heard = t;
  moment = t;
  more = false;
  phase = Resting;
  text = [];
  event = None;
  purpose = None;
  user = None;
}

abbrev pub fresh : ℕ → List ℕ → List ℕ → ℕ → State
fresh w domain dice t = record { fed = record { limits = limits; reading = first_reading }; talk = fresh_talk w domain (stream_id dice) t }

-- What is to be handed over is there.

abbrev pub IsThere : {A : Type 0} → Option A → Type 0
IsThere (Some a) = Unit {0}
IsThere None = ⊥

-- what a phase speaks of
abbrev pub IsLoaded : Talk → Phase → Type 0
IsLoaded s Drawing = IsThere s.purpose
IsLoaded s (Drawn dice) = IsThere s.purpose
IsLoaded s Entering = IsThere s.event
IsLoaded s LoggingIn = IsThere s.user
IsLoaded s LoggedIn = IsThere s.user
IsLoaded s phase = Unit {0}

-- an item waits only where something was heard
abbrev pub IsReadyAt : Phase → Reading → Type 0
IsReadyAt Heard reading = Unit {0}
IsReadyAt phase reading = is_ready reading ≡ true

-- after an item the next one, or where there is none the pulls
abbrev pub handled_phase : Bool → Phase
handled_phase more = if more then Resting else Pulling

abbrev pub handled : Talk → Talk
handled s = record s { phase = handled_phase s.more }

-- What is heard.

-- so much was taken of a piece of so many bytes
abbrev pub heard_at : Talk → ℕ → ℕ → ℕ → Talk
heard_at s t n most = record s { more = nat_lt n most; heard = t; moment = t; phase = Heard }

abbrev pub read : Fed → List ℕ → Fed
read f bytes = record f { reading = reading_after f.limits f.reading bytes }

-- as much of a piece as ends with its first item, or all
abbrev pub taken_of : State → List ℕ → ℕ
taken_of s piece = taken s.fed.limits s.fed.reading piece

abbrev pub hears : State → ℕ → List ℕ → State
hears s t piece =
    record { fed = read s.fed (take (taken_of s piece) piece); talk = heard_at s.talk t (taken_of s piece) (length piece) }

abbrev pub waited : Talk → ℕ → Talk
waited s t = record s { moment = t; phase = if is_idle s.stage s.opened s.heard t then Parting (ended.Idle t) else Pulling }

-- bytes come too late for a login
abbrev pub is_late : Talk → ℕ → Bool
is_late s t = is_overdue s.stage s.opened t

abbrev pub late_at : Talk → ℕ → Talk
late_at s t = record s { moment = t; phase = Parting (ended.Idle t) }

abbrev pub hung_at : Talk → ℕ → Talk
hung_at s t = record s { moment = t; phase = Parting ended.Hung }

-- What is said.

abbrev pub header_at : Talk → List ℕ
header_at s = header_text s.domain (id_of s.id s.again)

abbrev pub unsaid : Talk → List ℕ
unsaid s = if s.headed then [] else header_at s

abbrev pub error_said : Talk → Option StreamError → Option (List ℕ)
error_said s (Some e) = Some (unsaid s ++ error_text e ++ close_tag)
error_said s None = None

-- the last text, if there is one
abbrev pub last_text : Talk → Ended → Option (List ℕ)
last_text s ended.Closed = Some close_tag
last_text s x = error_said s (error_of x)

-- What an item asks for.

abbrev pub says : Talk → List ℕ → Talk
says s text = record s { text = text; phase = Saying }

abbrev pub refused : Talk → Failure → Talk
refused s f = record s { stage = Login Outside; failures = min (s.failures + 1) 3; phase = Refusing f }

abbrev pub asked_by : Talk → Asked → Talk
asked_by s asked.Header = says (record s { headed = true }) (header_at s ++ features_of s.stage)
asked_by s (asked.Invite m) = says (record s { stage = Login (Invited m) }) invitation_text
asked_by s (asked.Fail f) = refused s f
asked_by s (asked.LogIn user success) = record s { stage = Login Outside; user = Some user; text = success_text success; phase = LoggingIn }
asked_by s (asked.Draw purpose) = record s { stage = stage_for purpose s.stage; purpose = Some purpose; phase = Drawing }
asked_by s (asked.RefuseResource id) = says s (refused_resource_text id)
asked_by s (asked.Submit event) = record s { event = Some event; phase = Entering }
asked_by s (asked.End x) = record s { phase = Parting x }

-- the item is counted
abbrev pub counted : Talk → Talk
counted s = record s { number = told_number (s.number + 1) }

abbrev pub Takes : Talk → Option Item → Talk → Type 0
Takes s (Some item) s' = (asked : Asked) × Asks s.line s.domain (counted s).number s.moment s.stage item asked × (s' ≡ asked_by (counted s) asked)
Takes s None s' = s' ≡ record s { phase = Pulling }

-- What random bytes make.

abbrev pub challenged_by : Talk → Exchange → Talk
challenged_by s e = says (record s { stage = Login (Challenged e); purpose = None }) (challenge_text (challenge_of e))

abbrev pub drawn_for : Book → Talk → List ℕ → Purpose → Talk
drawn_for accounts s dice (Challenge m first) = challenged_by s (exchange_of accounts m first dice)
drawn_for accounts s dice (Bind id resource) =
    record s { purpose = None; event = Some (event.Bind s.line id resource s.moment (take 16 dice)); phase = Entering }
drawn_for accounts s dice (Enable resume) =
    record s { purpose = None; event = Some (event.Enable s.line resume (take 16 dice)); phase = Entering }

abbrev pub drawn_if : Book → Talk → List ℕ → Option Purpose → Talk
drawn_if accounts s dice (Some purpose) = drawn_for accounts s dice purpose
drawn_if accounts s dice None = s

-- What is handled before a want: an item, or random bytes.
abbrev pub Prepares : Book → State → Phase → State → Type 0
Prepares accounts s Heard s' = Takes s.talk (waiting s.fed.reading) s'.talk × (s'.fed ≡ record s.fed { reading = handed s.fed.reading })
Prepares accounts s (Drawn dice) s' = (s'.talk ≡ drawn_if accounts s.talk dice s.talk.purpose) × (s'.fed ≡ s.fed)
Prepares accounts s phase s' = s' ≡ s

-- What is wanted.

pub data Wish : Type 0 where
  ToSay : (text : List ℕ) → Wish
  ToSubmit : (event : Event) → Wish
  ToDraw : Wish
  ToAwait : Wish
  ToFinish : (ended : Ended) → Wish

abbrev pub parting_wish : Option (List ℕ) → Ended → Wish
parting_wish (Some text) ended = ToSay text
parting_wish None ended = ToFinish ended

abbrev pub event_wish : Option Event → Wish
event_wish (Some event) = ToSubmit event
event_wish None = ToAwait

abbrev pub login_wish : ℕ → Option (List ℕ) → Wish
login_wish w (Some user) = ToSubmit (event.Login w user)
login_wish w None = ToAwait

abbrev pub wish : Talk → Phase → Wish
wish s Saying = ToSay s.text
wish s (Refusing f) = ToSay (failure_text f)
wish s Drawing = ToDraw
wish s Entering = event_wish s.event
wish s LoggingIn = login_wish s.line s.user
wish s PullingOnce = ToSubmit (event.Pull s.line s.moment)
wish s Pulling = ToSubmit (event.Pull s.line s.moment)
wish s Sweeping = ToSubmit (event.Sweep s.line s.moment)
wish s (Parting ended) = parting_wish (last_text s ended) ended
wish s (Left ended) = ToFinish ended
wish s Resting = ToAwait
wish s Heard = ToAwait
wish s (Drawn dice) = ToAwait
wish s (Entered pulls) = ToAwait
wish s LoggedIn = ToAwait

abbrev pub wish_of : State → Wish
wish_of s = wish s.talk s.talk.phase

-- where the flow stands once it said what it wants

abbrev pub event_follows : Option Event → Bool
event_follows (Some event) = follows event
event_follows None = false

abbrev pub wished : Talk → Phase → Talk
wished s Saying = record s { text = []; phase = handled_phase s.more }
wished s (Refusing f) = record s { phase = if nat_lt s.failures 3 then handled_phase s.more else Parting ended.ThirdFailure }
wished s Entering = record s { event = None; phase = Entered (event_follows s.event) }
wished s LoggingIn = record s { phase = LoggedIn }
wished s (Parting ended) = record s { phase = Left ended }
wished s phase = s

abbrev pub IsWish : Want → Wish → Type 0
IsWish (Say text) wish = wish ≡ ToSay text.items
IsWish (Submit event) wish = wish ≡ ToSubmit event
IsWish NeedDice wish = wish ≡ ToDraw
IsWish Await wish = wish ≡ ToAwait
IsWish (Finish ended) wish = wish ≡ ToFinish ended

-- memory may be wanting for what is next
abbrev pub IsGoing : Talk → Phase → Type 0
IsGoing s (Parting ended) = IsThere (last_text s ended)
IsGoing s (Left ended) = ⊥
IsGoing s phase = Unit {0}

-- what is wanted, after what is handled before
abbrev pub Wants : Book → State → Want → State → Type 0
Wants accounts s want s' =
    (mid : State) × Prepares accounts s s.talk.phase mid × IsWish want (wish_of mid) × (s' ≡ record mid { talk = wished mid.talk mid.talk.phase })

-- What answers make of it.

abbrev pub ousts : Talk → Ended → Talk
ousts s x = record s { phase = Parting x }

abbrev pub told_entered : Talk → Bool → Reply → Talk
told_entered s pulls (reply.Over cause) = ousts s (ended.Over cause)
told_entered s pulls r = record s { stage = stage_after r s.stage; phase = if pulls then PullingOnce else handled_phase s.more }

abbrev pub logged_by : Talk → Option (List ℕ) → Talk
logged_by s (Some user) = record s { stage = Logged user; user = None; again = true; headed = false; phase = Saying }
logged_by s None = s

abbrev pub told_login : Talk → Reply → Talk
told_login s reply.Done = logged_by s s.user
told_login s (reply.Over cause) = ousts s (ended.Over cause)
told_login s r = refused s failure.NotAuthorized

abbrev pub told_once : Talk → Reply → Talk
told_once s (reply.Over cause) = ousts s (ended.Over cause)
told_once s r = handled s

abbrev pub told_pull : Talk → Reply → Talk
told_pull s reply.Frame = record s { phase = Pulling }
told_pull s (reply.Nothing due) = record s { phase = if due then Sweeping else Resting }
told_pull s (reply.Over cause) = ousts s (ended.Over cause)
told_pull s r = record s { phase = Resting }

abbrev pub told_at : Talk → Phase → Reply → Talk
told_at s (Entered pulls) r = told_entered s pulls r
told_at s LoggedIn r = told_login s r
told_at s PullingOnce r = told_once s r
told_at s Pulling r = told_pull s r
told_at s Sweeping r = record s { phase = Pulling }
told_at s phase r = s

-- a new stream begins
abbrev pub restarts : Phase → Reply → Bool
restarts LoggedIn reply.Done = true
restarts phase r = false

abbrev pub fed_after : Bool → Fed → Fed
fed_after again f = if again then record f { reading = first_reading } else f

abbrev pub told : State → Reply → State
told s r = record { fed = fed_after (restarts s.talk.phase r) s.fed; talk = told_at s.talk s.talk.phase r }

abbrev pub short_at : Talk → Phase → Talk
short_at s (Entered pulls) = record s { phase = Left ended.NoMemory }
short_at s LoggedIn = record s { phase = Left ended.NoMemory }
short_at s Sweeping = record s { phase = Resting }
short_at s phase = s

abbrev pub gave_at : Talk → List ℕ → Talk
gave_at s dice = record s { phase = Drawn dice }

-- the last want was an event
abbrev pub IsTold : Phase → Type 0
IsTold (Entered pulls) = Unit {0}
IsTold LoggedIn = Unit {0}
IsTold PullingOnce = Unit {0}
IsTold Pulling = Unit {0}
IsTold Sweeping = Unit {0}
IsTold phase = ⊥

-- no event waits for its reply
abbrev pub IsToldAll : Phase → Type 0
IsToldAll (Entered pulls) = ⊥
IsToldAll LoggedIn = ⊥
IsToldAll phase = Unit {0}

-- what the flow waits for after a want, where no event waited for its reply before
abbrev pub IsAfter : Phase → Want → Phase → Type 0
IsAfter before (Submit event) after = IsTold after
IsAfter before NeedDice after = after ≡ Drawing
IsAfter before Await after = IsToldAll before → after ≡ Resting
IsAfter before (Say text) after = IsToldAll after
IsAfter before (Finish ended) after = Unit {0}
