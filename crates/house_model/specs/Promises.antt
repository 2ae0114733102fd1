-- What the house promises of every history, whatever is sent, cut or resumed.
use Rattle.std.specs.Prelude.{◌≡◌, ◌⊎◌, ℕ, ◌+◌, ◌-◌, List, [], ◌∷◌, ◌++◌, length, drop, take, Option, Some, None, Bool, true, false, ◌&&◌}
use Rattle.stanza_tree.specs.declared.frame.Entry.{Entry}
use Rattle.stanza_model.specs.declared.stanza.Stanza.{Stanza}
use Rattle.sm_counters.specs.Numbers.{count_of, number}
use Rattle.sm_resume.specs.declared.decision.Cause.TheVariants.{TooHigh}
use Rattle.sm_resume.specs.declared.id.ResumeId.{ResumeId}
use Rattle.sm_account.specs.Prefixes.{IsPrefixOf}
use Rattle.sm_account.specs.Accounts.{Account}
use Rattle.house_model.specs.declared.event.Event.{Event}
use Rattle.house_model.specs.declared.event.Event.TheVariants as event
use Rattle.house_model.specs.declared.reply.Reply.{Reply}
use Rattle.house_model.specs.declared.reply.Reply.TheVariants as reply
use Rattle.house_model.specs.Sessions.{Gone, Session}
use Rattle.house_model.specs.Traffic.{Traffic}
use Rattle.house_model.specs.States.{State}
use Rattle.house_model.specs.Histories.{Turn, made, step, after, Legal}
use Rattle.house_model.specs.Archiving.{AreArchives, keeps_from}
use Rattle.house_model.specs.Accounts.{IsAccountOf, handled, total_handled}
use Rattle.house_model.specs.Lines.{carried, acted, was_given}
use Rattle.house_model.specs.Stays.{Gapless, live_of, logs_of, own, run}
use Rattle.house_model.specs.Endings.{Endings}
use Rattle.house_model.specs.Closings.{Closings}
use Rattle.house_model.specs.Queueing.{queued_for}
use Rattle.house_model.specs.Deliveries.{Deliveries}
use Rattle.house_model.specs.Paging.{PagesTellAll}
use Rattle.house_model.specs.Resuming.{InTurn, is_live, is_of_user, IsNotFound, IsResumed, IsSwept, IsReplaced}

abbrev pub session_in : State → List Turn → ℕ → Session Traffic
session_in o h s = (after o h).world.sessions s

-- XEP-0198, 3: what was queued for the client, from the first entry on that its count counts
abbrev pub counted : State → List Turn → ℕ → List Entry
counted o h s = drop (session_in o h s).traffic.base_out (session_in o h s).traffic.queued

-- and what was queued before
abbrev pub uncounted : State → List Turn → ℕ → List Entry
uncounted o h s = take (session_in o h s).traffic.base_out (session_in o h s).traffic.queued

-- XEP-0045, 7: what a session is to see of a stay in a room
abbrev pub run_of : State → List Turn → (s stay : ℕ) → List Entry
run_of o h s i = run (logs_of o h).order s (session_in o h s).rest.address i (own s ((logs_of o h).stays i))

-- XEP-0198, 5: a user can resume the session of an id that can be read and was given to a session, where this is not
-- over, did not depart, and is the user's
abbrev pub can_resume : State → List Turn → ℕ → Option ResumeId → Bool
can_resume o h user None = false
can_resume o h user (Some id) = was_given o h id
    && (is_live (session_in o h id.session).hold && is_of_user (after o h) user (session_in o h id.session))

-- how many entries the client handled, by its count: a number from what is done with to what was given, since it counts
abbrev pub number_of : Traffic → ℕ → Option ℕ
number_of t count = number (t.kept - t.base_out) (t.sent - t.base_out) count

-- a count that stands for no such number is answered with what the server has
abbrev pub too_high : Traffic → ℕ → Reply
too_high t count = reply.Over (TooHigh count (count_of (t.kept - t.base_out)) (count_of (t.sent - t.base_out)))

abbrev pub reply_to : State → List Turn → Event → Reply
reply_to o h e = (step (after o h) e).reply

-- Whatever happens after the event, what connection c carries of session s is the queue from this place on.
abbrev pub CarriesFrom : State → List Turn → Event → (s c place : ℕ) → Type 0
CarriesFrom o h e s c place = (more : List Turn) → Legal o (h ++ made e (reply_to o h e) [] ∷ more)
    → IsPrefixOf (carried o (h ++ made e (reply_to o h e) [] ∷ more) s c)
    (drop place (session_in o (h ++ made e (reply_to o h e) [] ∷ more) s).traffic.queued)

-- A Resume that is in turn, on line w and connection c of a user.
pub record Resumption (o : State) (h : List Turn) : Type 0 where
  -- It fails with `item-not-found` where the user can't resume the session of its id.
  pub fails : (w c user count t : ℕ) (id : Option ResumeId) → InTurn (after o h) w c user
      → can_resume o h user id ≡ false
      → IsNotFound (after o h) w (step (after o h) (event.Resume w id count t))
  -- Otherwise its count is too high where it stands for no number, and only then.
  pub miscounts : (w c user count t : ℕ) (id : ResumeId) → InTurn (after o h) w c user
      → can_resume o h user (Some id) ≡ true → number_of (session_in o h id.session).traffic count ≡ None
      → reply_to o h (event.Resume w (Some id) count t) ≡ too_high (session_in o h id.session).traffic count
  -- In every other case the session is resumed, and its connection holds it and goes on at the client's number,
  pub resumes : (w c user count t n : ℕ) (id : ResumeId) → InTurn (after o h) w c user
      → can_resume o h user (Some id) ≡ true → number_of (session_in o h id.session).traffic count ≡ Some n
      → IsResumed (after o h) w c ((session_in o h id.session).traffic.base_out + n) id (step (after o h) (event.Resume w (Some id) count t))
  -- and what the connection carries begins at the client's number.
  pub carries : (w c user count t n : ℕ) (id : ResumeId) → InTurn (after o h) w c user
      → can_resume o h user (Some id) ≡ true → number_of (session_in o h id.session).traffic count ≡ Some n
      → CarriesFrom o h (event.Resume w (Some id) count t) id.session c
      ((session_in o h id.session).traffic.base_out + n)
  -- A client that counts, and says how many entries it handled, is resumed.
  pub counts : (w c user t : ℕ) (id : ResumeId) (a : Account Stanza) → InTurn (after o h) w c user
      → can_resume o h user (Some id) ≡ true → IsAccountOf a o h id.session
      → IsResumed (after o h) w c ((session_in o h id.session).traffic.base_out + total_handled a o h id.session) id
      (step (after o h) (event.Resume w (Some id) (count_of (total_handled a o h id.session)) t))
  -- A session departs by a Sweep, where it is over or past its deadline, or by a Bind of its address.
  pub departs : (e : Event) (s : ℕ) → ((step (after o h) e).state.world.sessions s).hold ≡ Gone
      → ((session_in o h s).hold ≡ Gone) ⊎ (IsSwept (after o h) e s ⊎ IsReplaced (after o h) e s)

pub record Safe (o : State) (h : List Turn) : Type 0 where
  -- What a client that counts has handled is a prefix of what was queued for it.
  pub handled_prefix : (s : ℕ) (a : Account Stanza) → IsAccountOf a o h s
      → IsPrefixOf (handled a o h s) (counted o h s)
  -- What was acted on is a prefix of what it has to send.
  pub acted_once : (s : ℕ) (a : Account Stanza) → IsAccountOf a o h s → IsPrefixOf (acted o h s) a.stanzas
  -- A resumption in turn fails only where unknown, ended, foreign or miscounted.
  pub resumption : Resumption o h
  -- Of what a room broadcasts while a session is in it, a run is queued for the session, without a gap.
  pub gapless : Gapless (after o h).world (logs_of o h)
  -- What a client that counts has handled of it is a prefix of that run, from its first number that is counted on.
  pub gapless_handled : (s i : ℕ) (a : Account Stanza) → IsAccountOf a o h s
      → IsPrefixOf (live_of i (handled a o h s)) (drop (length (live_of i (uncounted o h s))) (run_of o h s i))
  -- A session ends for its causes and no other; where its connection is lost and it can be resumed, it waits for 300 seconds.
  pub endings : Endings o h
  -- A connection is over for its causes and no other.
  pub closings : Closings o h
  -- What was queued for a session is what the turns queued for it while it went on, in their order.
  pub queueing : (s : ℕ) → (session_in o h s).traffic.queued ≡ queued_for o h s
  -- A stanza that is acted on is queued for each session that the tables of routing name, and an error for its sender, or the session is over for want of room.
  pub deliveries : Deliveries (after o h)
  -- Of what a room broadcasts, and of what users say to each other, the last 10,000 messages with a body are kept.
  pub archived : AreArchives (after o h).world (logs_of o h).order (keeps_from o h)
  -- Pages of an archive that are asked for one after the other tell each row that is asked for, once and in order.
  pub paged : PagesTellAll o h
