-- What a connection is told as it ends: the causes of `Over`.
use Rattle.std.specs.Prelude.{◌≡◌, ◌⊎◌, ℕ, ◌+◌, ◌-◌, List, Option, Some, None, ⊤}
use Rattle.sm_counters.specs.Numbers.{count_of}
use Rattle.sm_resume.specs.declared.decision.Cause.{Cause}
use Rattle.sm_resume.specs.declared.decision.Cause.TheVariants.{Moved, Replaced, Overfull, TooHigh, Flood, Closed, Lost}
use Rattle.sm_resume.specs.declared.id.ResumeId.{ResumeId}
use Rattle.session_table.specs.declared.line.Line as stage
use Rattle.session_table.specs.declared.line.Line.TheVariants.{Empty, Fresh, Logged, Bound, Over}
use Rattle.house_model.specs.declared.event.Event.{Event}
use Rattle.house_model.specs.declared.event.Event.TheVariants as event
use Rattle.house_model.specs.declared.reply.Reply.TheVariants as reply
use Rattle.house_model.specs.Sessions.{Held, Ended, Gone}
use Rattle.house_model.specs.Traffic.{handled}
use Rattle.house_model.specs.States.{State}
use Rattle.house_model.specs.Gate.{most_answers}
use Rattle.house_model.specs.Histories.{Turn, step, after, line_of}
use Rattle.house_model.specs.Resuming.{IsReplaced}
use Rattle.house_model.specs.Losses.{IsFlooded, IsTakenUp, before_it, after_it}

-- a line before the event, and after it
abbrev pub stage_before : State → ℕ → stage.Line
stage_before st w = (st.world.lines w).stage

abbrev pub stage_after : State → Event → ℕ → stage.Line
stage_after st e w = ((step st e).state.world.lines w).stage

-- the connection of a line, unless it is over
abbrev pub conn_at : stage.Line → Option ℕ
conn_at Empty = None
conn_at (Fresh c) = Some c
conn_at (Logged c user) = Some c
conn_at (Bound c s) = Some c
conn_at (Over c cause) = None

-- connection c of line w held a session, which a Resume gives to connection n
pub record IsMoved (st : State) (e : Event) (w c n : ℕ) : Type 0 where
  pub session : ℕ
  pub held : (before_it st session).hold ≡ Held w c
  pub taken : IsTakenUp st e session
  pub line : ℕ
  pub holds : (after_it st e session).hold ≡ Held line n

-- it held a session, at whose address a Bind makes session n
pub record IsBoundAnew (st : State) (e : Event) (w c n : ℕ) : Type 0 where
  pub session : ℕ
  pub held : (before_it st session).hold ≡ Held w c
  pub departs : (after_it st e session).hold ≡ Gone
  pub replaced : IsReplaced st e session
  pub next : n ≡ st.world.made + 1

-- it held a session, which this cause ends
pub record IsEndedOn (st : State) (e : Event) (w c : ℕ) (cause : Cause) : Type 0 where
  pub session : ℕ
  pub held : (before_it st session).hold ≡ Held w c
  pub ended : (after_it st e session).hold ≡ Ended cause

-- it asks for a session by a count that stands for no entry
pub record IsRefused (st : State) (e : Event) (w c h kept sent : ℕ) : Type 0 where
  pub user : ℕ
  pub id : ResumeId
  pub moment : ℕ
  pub logged : stage_before st w ≡ Logged c user
  pub asks : e ≡ event.Resume w (Some id) h moment
  pub none : handled (before_it st id.session).traffic h ≡ None
  pub done : kept ≡ count_of ((before_it st id.session).traffic.kept - (before_it st id.session).traffic.base_out)
  pub given : sent ≡ count_of ((before_it st id.session).traffic.sent - (before_it st id.session).traffic.base_out)

-- why connection c of line w is over; no connection is told that its session was closed or lost, since it is gone then
abbrev pub IsToldBy : State → Event → (w c : ℕ) → Cause → Type 0
IsToldBy st e w c (Moved n) = IsMoved st e w c n
IsToldBy st e w c (Replaced n) = IsBoundAnew st e w c n
IsToldBy st e w c (Overfull kept queued) = IsEndedOn st e w c (Overfull kept queued)
IsToldBy st e w c (TooHigh h kept sent) = IsEndedOn st e w c (TooHigh h kept sent) ⊎ IsRefused st e w c h kept sent
IsToldBy st e w c (Flood n) = (n ≡ most_answers) × IsFlooded st e w
IsToldBy st e w c Closed = ⊥
IsToldBy st e w c Lost = ⊥

-- a cause that a connection can be told
abbrev pub IsTold : Cause → Type 0
IsTold Closed = ⊥
IsTold Lost = ⊥
IsTold cause = ⊤

-- the connection of the line is gone, or another came
abbrev pub IsLeft : Event → ℕ → Type 0
IsLeft (event.OpenLine v) w = v ≡ w
IsLeft (event.DropLine v t) w = v ≡ w
IsLeft (event.CloseLine v t) w = v ≡ w
IsLeft e w = ⊥

-- After a history, and at each event then:
pub record Closings (o : State) (h : List Turn) : Type 0 where
  -- A connection that is over now, and was not, is so by what its cause says.
  pub told_by : (e : Event) (w c : ℕ) (cause : Cause) → stage_after (after o h) e w ≡ Over c cause
      → (stage_before (after o h) w ≡ Over c cause) ⊎ ((conn_at (stage_before (after o h) w) ≡ Some c) × IsToldBy (after o h) e w c cause)
  -- One that is over stays so, until it is gone.
  pub stays_over : (e : Event) (w c : ℕ) (cause : Cause) → stage_before (after o h) w ≡ Over c cause
      → (stage_after (after o h) e w ≡ Over c cause) ⊎ IsLeft e w
  -- What is answered is what the line is over with.
  pub answered : (e : Event) (cause : Cause) → (step (after o h) e).reply ≡ reply.Over cause
      → (c : ℕ) × (stage_after (after o h) e (line_of e) ≡ Over c cause)
  -- Neither is one over, nor is it answered so, since its session was closed or lost.
  pub never : (w c : ℕ) (cause : Cause) → stage_before (after o h) w ≡ Over c cause → IsTold cause
  pub never_answered : (e : Event) (cause : Cause) → (step (after o h) e).reply ≡ reply.Over cause → IsTold cause
  -- Where the session that a connection held is over for a cause that it can be told, the connection is over for this cause;
  pub tells : (e : Event) (s w c : ℕ) (cause : Cause) → (before_it (after o h) s).hold ≡ Held w c → (after_it (after o h) e s).hold ≡ Ended cause
      → IsTold cause → stage_after (after o h) e w ≡ Over c cause
  -- where it departs, the connection is over as Replaced;
  pub tells_replaced : (e : Event) (s w c : ℕ) → (before_it (after o h) s).hold ≡ Held w c → (after_it (after o h) e s).hold ≡ Gone
      → stage_after (after o h) e w ≡ Over c (Replaced ((after o h).world.made + 1))
  -- and where another line holds it now, as Moved.
  pub tells_moved : (e : Event) (s w c v d : ℕ) → (before_it (after o h) s).hold ≡ Held w c → (after_it (after o h) e s).hold ≡ Held v d
      → (v ≡ w → ⊥) → stage_after (after o h) e w ≡ Over c (Moved d)
  -- A connection that asks for a ninth answer is over, and is answered so.
  pub floods : (e : Event) (w : ℕ) → IsFlooded (after o h) e w → ((step (after o h) e).reply ≡ reply.Over (Flood most_answers))
      × ((c : ℕ) × (conn_at (stage_before (after o h) w) ≡ Some c) × (stage_after (after o h) e w ≡ Over c (Flood most_answers)))
