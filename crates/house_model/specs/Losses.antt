-- How the connection of a session is lost, and what the session keeps (XEP-0198, 5).
use Rattle.std.specs.Prelude.{◌≡◌, ℕ, ◌+◌, ◌≤◌, ◌&&◌, List, [], ◌∷◌, ◌++◌, length, Some, is_some, Bool, true, false}
use Rattle.stanza_tree.specs.declared.frame.Entry.{Entry}
use Rattle.session_table.specs.declared.line.Line as stage
use Rattle.session_table.specs.declared.line.Line.TheVariants.{Logged, Bound}
use Rattle.house_model.specs.declared.event.Event.{Event}
use Rattle.house_model.specs.declared.event.Event.TheVariants as event
use Rattle.house_model.specs.declared.reply.Reply.TheVariants as reply
use Rattle.house_model.specs.Sessions.{Away, Session}
use Rattle.house_model.specs.Traffic.{Traffic}
use Rattle.house_model.specs.States.{State}
use Rattle.house_model.specs.Gate.{most_answers, patience}
use Rattle.house_model.specs.Steps.{turn}
use Rattle.house_model.specs.Histories.{Turn, made, step, after, line_of}
use Rattle.house_model.specs.Stays.{logs_of}

-- a session before the event, and after it
abbrev pub before_it : State → ℕ → Session Traffic
before_it st s = st.world.sessions s

abbrev pub after_it : State → Event → ℕ → Session Traffic
after_it st e s = (step st e).state.world.sessions s

-- what asks for an answer, and on which connections it can
abbrev pub can_ask : Event → stage.Line → Bool
can_ask (event.Bind w id resource t dice) (Logged c user) = true
can_ask (event.Enable w wants dice) (Logged c user) = true
can_ask (event.Enable w wants dice) (Bound c s) = true
can_ask (event.Resume w id h t) (Logged c user) = true
can_ask (event.Resume w id h t) (Bound c s) = true
can_ask (event.Ask w) (Bound c s) = true
can_ask e g = false

-- a ninth answer is asked for at line w
pub record IsFlooded (st : State) (e : Event) (w : ℕ) : Type 0 where
  pub line : line_of e ≡ w
  pub asks : can_ask e (st.world.lines w).stage ≡ true
  pub full : most_answers ≤ length (st.world.lines w).answers

-- the connection of line w is lost
abbrev pub IsCut : State → Event → ℕ → Type 0
IsCut st (event.DropLine v t) w = v ≡ w
IsCut st (event.OpenLine v) w = v ≡ w
IsCut st e w = IsFlooded st e w

-- its stanzas are counted, and its client asked that it can be resumed
abbrev pub can_return : Session Traffic → Bool
can_return s = s.counts && is_some s.rest.resume_id

-- a Resume gives session s to its connection
abbrev pub IsTakenUp : State → Event → ℕ → Type 0
IsTakenUp st (event.Resume w (Some id) h t) s = (id.session ≡ s) × ((step st (event.Resume w (Some id) h t)).reply ≡ reply.Resumed)
IsTakenUp st e s = ⊥

-- no connection holds it until the deadline, and all else is as it was
abbrev pub away_until : ℕ → Session Traffic → Session Traffic
away_until deadline s = record s { hold = Away; rest = record s.rest { deadline = Some deadline } }

-- so it is after the event, and it is in its rooms, and its stays there are what they were
pub record Waits (o : State) (h : List Turn) (e : Event) (s : ℕ) : Type 0 where
  pub session : after_it (after o h) e s ≡ away_until ((turn e (after o h)).head.moment + patience) (before_it (after o h) s)
  pub rooms : (step (after o h) e).state.world.rooms ≡ (after o h).world.rooms
  pub stays : (i : ℕ) → (logs_of o (h ++ made e (step (after o h) e).reply (step (after o h) e).text ∷ [])).stays i ≡ (logs_of o h).stays i

-- a session that is away stays so: what is queued for it comes to its queue, and all else but its manner is as it was
pub record StaysAway (old new : Session Traffic) : Type 0 where
  pub more : List Entry
  pub hold : new.hold ≡ Away
  pub counts : new.counts ≡ old.counts
  pub traffic : new.traffic ≡ record old.traffic { queued = old.traffic.queued ++ more }
  pub rest : new.rest ≡ record old.rest { manner = new.rest.manner }
