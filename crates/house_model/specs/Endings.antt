-- What ends a session, what one that lost its connection keeps, and how long a connection holds it (XEP-0198, 4 and 5). Each turn is one of a
-- history; one for which memory was wanting changes nothing.
use Rattle.std.specs.Prelude.{◌≡◌, ◌⊎◌, ℕ, ◌-◌, List, ◌∷◌, ◌++◌, length, None, true, false}
use Rattle.stanza_tree.specs.declared.frame.Entry.{Entry}
use Rattle.sm_counters.specs.Numbers.{count_of}
use Rattle.sm_queue.specs.Queues.{has_room}
use Rattle.sm_resume.specs.declared.decision.Cause.{Cause}
use Rattle.sm_resume.specs.declared.decision.Cause.TheVariants.{Moved, Replaced, Overfull, TooHigh, Flood, Closed, Lost}
use Rattle.sm_resume.specs.declared.id.ResumeId.{ResumeId}
use Rattle.house_model.specs.declared.event.Event.{Event}
use Rattle.house_model.specs.declared.event.Event.TheVariants as event
use Rattle.house_model.specs.Sessions.{Held, Away, Ended, Gone, Push}
use Rattle.house_model.specs.Traffic.{Traffic, whole, waiting, handled}
use Rattle.house_model.specs.States.{World, State, keep}
use Rattle.house_model.specs.Effects.{Effect, On, apply_all}
use Rattle.house_model.specs.Steps.{verdict, turn}
use Rattle.house_model.specs.Histories.{Turn, after}
use Rattle.house_model.specs.Lines.{was_given}
use Rattle.house_model.specs.Resuming.{is_live, IsSwept, IsReplaced}
use Rattle.house_model.specs.Losses.{IsCut, IsTakenUp, Waits, StaysAway, can_return, before_it, after_it}

-- the client of session s closed its stream (RFC 6120, 4.4)
abbrev pub IsClosed : State → Event → ℕ → Type 0
IsClosed st (event.CloseLine w t) s = (c : ℕ) × ((before_it st s).hold ≡ Held w c)
IsClosed st e s = ⊥

-- its connection is lost, and it can't be resumed
pub record IsDropped (st : State) (e : Event) (s : ℕ) : Type 0 where
  pub line : ℕ
  pub conn : ℕ
  pub held : (before_it st s).hold ≡ Held line conn
  pub cut : IsCut st e line
  pub lasts : can_return (before_it st s) ≡ false

-- While it goes on, an entry for it comes for which its queue has no room, among these effects; the numbers are how many entries are done with
-- then, and how many were ever queued.
pub record IsOverfull (world : World Traffic) (es : List Effect) (s kept queued : ℕ) : Type 0 where
  pub before : List Effect
  pub entry : Entry
  pub later : List Effect
  pub comes : es ≡ before ++ On s (Push entry) ∷ later
  pub on : is_live ((apply_all whole world before).sessions s).hold ≡ true
  pub full : has_room (waiting ((apply_all whole world before).sessions s).traffic) entry ≡ false
  pub done : kept ≡ ((apply_all whole world before).sessions s).traffic.kept
  pub all : queued ≡ length ((apply_all whole world before).sessions s).traffic.queued

-- its client acknowledges, by a count that stands for no entry; the numbers are this count, and those of what is done with and what was given
pub record IsMiscounted (st : State) (e : Event) (s h kept sent : ℕ) : Type 0 where
  pub line : ℕ
  pub conn : ℕ
  pub held : (before_it st s).hold ≡ Held line conn
  pub counts : (before_it st s).counts ≡ true
  pub says : e ≡ event.Ack line h
  pub none : handled (before_it st s).traffic h ≡ None
  pub done : kept ≡ count_of ((before_it st s).traffic.kept - (before_it st s).traffic.base_out)
  pub given : sent ≡ count_of ((before_it st s).traffic.sent - (before_it st s).traffic.base_out)

-- why session s is over
abbrev pub IsEndedBy : State → Event → ℕ → Cause → Type 0
IsEndedBy st e s Closed = IsClosed st e s
IsEndedBy st e s Lost = IsDropped st e s
IsEndedBy st e s (Overfull kept queued) = IsOverfull st.world (verdict (keep (turn e st)) e).effects s kept queued
IsEndedBy st e s (TooHigh h kept sent) = IsMiscounted st e s h kept sent
IsEndedBy st e s (Replaced n) = ⊥
IsEndedBy st e s (Moved n) = ⊥
IsEndedBy st e s (Flood n) = ⊥

-- At each event after a history:
pub record Endings (o : State) (h : List Turn) : Type 0 where
  -- A session that went on and is over was ended by what its cause says.
  pub ends : (e : Event) (s : ℕ) (cause : Cause) → is_live (before_it (after o h) s).hold ≡ true
      → (after_it (after o h) e s).hold ≡ Ended cause → IsEndedBy (after o h) e s cause
  -- Its client's close, a loss where it can't be resumed, and a count that stands for no entry always end it.
  pub closes : (s w c t : ℕ) → (before_it (after o h) s).hold ≡ Held w c → (after_it (after o h) (event.CloseLine w t) s).hold ≡ Ended Closed
  pub drops : (e : Event) (s w c : ℕ) → (before_it (after o h) s).hold ≡ Held w c → can_return (before_it (after o h) s) ≡ false
      → IsCut (after o h) e w → (after_it (after o h) e s).hold ≡ Ended Lost
  pub miscounts : (e : Event) (s count kept sent : ℕ) → IsMiscounted (after o h) e s count kept sent
      → (after_it (after o h) e s).hold ≡ Ended (TooHigh count kept sent)
  -- One that went on and departed was away and past its deadline at a Sweep, or its address was bound.
  pub departs : (e : Event) (s : ℕ) → is_live (before_it (after o h) s).hold ≡ true → (after_it (after o h) e s).hold ≡ Gone
      → (IsSwept (after o h) e s × ((before_it (after o h) s).hold ≡ Away)) ⊎ IsReplaced (after o h) e s
  -- One that is over keeps its cause, until it departs; and one that departed does not come back.
  pub keeps_cause : (e : Event) (s : ℕ) (cause : Cause) → (before_it (after o h) s).hold ≡ Ended cause
      → ((after_it (after o h) e s).hold ≡ Ended cause) ⊎ ((after_it (after o h) e s).hold ≡ Gone)
  pub stays_gone : (e : Event) (s : ℕ) → (before_it (after o h) s).hold ≡ Gone → (after_it (after o h) e s).hold ≡ Gone
  -- One that was given an id can be resumed; where its connection is lost, it waits for 300 seconds.
  pub given : (id : ResumeId) → was_given o h id ≡ true → can_return (before_it (after o h) id.session) ≡ true
  pub waits : (e : Event) (s w c : ℕ) → (before_it (after o h) s).hold ≡ Held w c → can_return (before_it (after o h) s) ≡ true
      → IsCut (after o h) e w → Waits o h e s
  -- It waits on, unless it is over or departed now (as `ends` and `departs` say), or is resumed.
  pub waits_on : (e : Event) (s : ℕ) → (before_it (after o h) s).hold ≡ Away → (before_it (after o h) s).counts ≡ true
      → StaysAway (before_it (after o h) s) (after_it (after o h) e s)
      ⊎ ((is_live (after_it (after o h) e s).hold ≡ false) ⊎ IsTakenUp (after o h) e s)
  -- One that a connection holds is held by it on, unless it is over or departed now, its connection is lost, or it is resumed on another.
  pub keeps_hold : (e : Event) (s w c : ℕ) → (before_it (after o h) s).hold ≡ Held w c
      → ((after_it (after o h) e s).hold ≡ Held w c)
      ⊎ ((is_live (after_it (after o h) e s).hold ≡ false) ⊎ (IsCut (after o h) e w ⊎ IsTakenUp (after o h) e s))
