-- The lines of a session, read off the house's history: the connections that held it, what was given and what arrived on
-- each, what was acted on, and what its client was told, since its stanzas are counted (XEP-0198, 3).
use Rattle.std.specs.Prelude.{ℕ, ◌+◌, ◌==◌, ◌&&◌, ◌||◌, List, [], ◌∷◌, ◌++◌, length, drop, slice_get, bytes_eq, Option, Some, Bool, true, false, if◌then◌else◌}
use Rattle.stanza_tree.specs.declared.frame.Entry.{Entry}
use Rattle.stanza_model.specs.declared.stanza.Stanza.{Stanza}
use Rattle.sm_resume.specs.declared.id.ResumeId.{ResumeId}
use Rattle.sm_account.specs.Logs.{Given, Taken, given_of, entries_of, stanzas_of}
use Rattle.session_table.specs.declared.line.Line as stage
use Rattle.session_table.specs.declared.line.Line.TheVariants.{Logged, Bound}
use Rattle.house_model.specs.declared.answer.Answer.{Answer}
use Rattle.house_model.specs.declared.event.Event.{Event}
use Rattle.house_model.specs.declared.event.Event.TheVariants as event
use Rattle.house_model.specs.declared.reply.Reply.{Reply}
use Rattle.house_model.specs.declared.reply.Reply.TheVariants as reply
use Rattle.house_model.specs.States.{State}
use Rattle.house_model.specs.Steps.{id_if}
use Rattle.house_model.specs.Histories.{Outcome, Made, Short, Turn, next}

-- what each turn tells, in order
abbrev pub told : {A : Type 0} → (State → Event → Outcome → List A) → State → List Turn → List A
told tell st [] = []
told tell st (x ∷ more) = tell st x.event x.outcome ++ told tell (next st x) more

abbrev pub while_counted : {A : Type 0} → Bool → List A → List A
while_counted true xs = xs
while_counted false xs = []

-- of a line on which session s is bound, while its stanzas are counted
abbrev pub holding : {A : Type 0} → ℕ → State → (ℕ → List A) → stage.Line → List A
holding s st f (Bound c i) = if s == i then while_counted (st.world.sessions s).counts (f c) else []
holding s st f g = []

-- Pull: where no answer waits, the frame is that of the next entry
abbrev pub given_by : ℕ → State → ℕ → List Answer → Reply → List Given
given_by s st w [] reply.Frame =
    holding s st (λ c. given_of c (slice_get (st.world.sessions s).traffic.queued (st.world.sessions s).traffic.sent))
    (st.world.lines w).stage
given_by s st w answers r = []

abbrev pub given : ℕ → State → Event → Outcome → List Given
given s st (event.Pull w t) (Made r text) = given_by s st w (st.world.lines w).answers r
given s st e o = []

-- a stanza arrives: an Act that is Done, or for which memory is wanting
abbrev pub taken_at : ℕ → State → ℕ → Stanza → List (Taken Stanza)
taken_at s st w x = holding s st (λ c. record { connection = c; stanza = x } ∷ []) (st.world.lines w).stage

abbrev pub taken_by : ℕ → State → ℕ → Stanza → Reply → List (Taken Stanza)
taken_by s st w x reply.Done = taken_at s st w x
taken_by s st w x r = []

abbrev pub taken : ℕ → State → Event → Outcome → List (Taken Stanza)
taken s st (event.Act w x t) (Made r text) = taken_by s st w x r
taken s st (event.Act w x t) Short = taken_at s st w x
taken s st e o = []

-- a stanza is acted on: an Act that is Done
abbrev pub done_by : ℕ → State → ℕ → Stanza → Reply → List Stanza
done_by s st w x reply.Done = holding s st (λ c. x ∷ []) (st.world.lines w).stage
done_by s st w x r = []

abbrev pub done : ℕ → State → Event → Outcome → List Stanza
done s st (event.Act w x t) (Made r text) = done_by s st w x r
done s st e o = []

abbrev pub short_on : ℕ → State → Event → Outcome → List ℕ
short_on s st (event.Act w x t) Short = holding s st (λ c. c ∷ []) (st.world.lines w).stage
short_on s st e o = []

-- Ask: how many stanzas were acted on, where it is Done
abbrev pub asked_by : ℕ → State → ℕ → Reply → List ℕ
asked_by s st w reply.Done =
    holding s st (λ c. length (drop (st.world.sessions s).traffic.base_in (st.world.sessions s).traffic.acts) ∷ [])
    (st.world.lines w).stage
asked_by s st w r = []

abbrev pub asked : ℕ → State → Event → Outcome → List ℕ
asked s st (event.Ask w) (Made r text) = asked_by s st w r
asked s st e o = []

-- a connection comes to hold session s: by the Bind that makes it, or by a Resume
abbrev pub conn_of : stage.Line → List ℕ
conn_of (Logged c u) = c ∷ []
conn_of g = []

abbrev pub bound_by : ℕ → State → ℕ → Reply → List ℕ
bound_by s st w reply.Bound = if s == st.world.made + 1 then conn_of (st.world.lines w).stage else []
bound_by s st w r = []

abbrev pub resumed_by : ℕ → State → (w i : ℕ) → Reply → List ℕ
resumed_by s st w i reply.Resumed = if s == i then conn_of (st.world.lines w).stage else []
resumed_by s st w i r = []

abbrev pub joined : ℕ → State → Event → Outcome → List ℕ
joined s st (event.Bind w id resource t dice) (Made r text) = bound_by s st w r
joined s st (event.Resume w (Some id) h t) (Made r text) = resumed_by s st w id.session r
joined s st e o = []

-- Enable: an id by which the session of the line can be resumed, where its stanzas were not counted before
abbrev pub new_ids : Bool → Option ResumeId → List ResumeId
new_ids false (Some id) = id ∷ []
new_ids counted id = []

abbrev pub ids_at : State → (wants : Bool) → (dice : List ℕ) → stage.Line → List ResumeId
ids_at st wants dice (Bound c s) = new_ids (st.world.sessions s).counts (id_if wants s dice)
ids_at st wants dice g = []

abbrev pub ids_by : State → ℕ → Bool → List ℕ → Reply → List ResumeId
ids_by st w wants dice reply.Done = ids_at st wants dice (st.world.lines w).stage
ids_by st w wants dice r = []

abbrev pub ids : State → Event → Outcome → List ResumeId
ids st (event.Enable w wants dice) (Made r text) = ids_by st w wants dice r
ids st e o = []

-- the connections that held session s, in order
abbrev pub lines : State → List Turn → ℕ → List ℕ
lines o h s = told (joined s) o h

-- the entries that Pull gave on connection c
abbrev pub carried : State → List Turn → (s c : ℕ) → List Entry
carried o h s c = entries_of c (told (given s) o h)

-- the stanzas that arrived there
abbrev pub arrivals : State → List Turn → (s c : ℕ) → List Stanza
arrivals o h s c = stanzas_of c (told (taken s) o h)

-- the stanzas that were acted on, over all connections
abbrev pub acted : State → List Turn → ℕ → List Stanza
acted o h s = told (done s) o h

-- how many of them there were at each Ask
abbrev pub asks : State → List Turn → ℕ → List ℕ
asks o h s = told (asked s) o h

-- the connections on which a stanza arrived for which memory was wanting
abbrev pub shorts : State → List Turn → ℕ → List ℕ
shorts o h s = told (short_on s) o h

-- whether an Enable gave this id
abbrev pub is_among : ResumeId → List ResumeId → Bool
is_among id [] = false
is_among id (x ∷ xs) = ((x.session == id.session) && bytes_eq x.digits id.digits) || is_among id xs

abbrev pub was_given : State → List Turn → ResumeId → Bool
was_given o h id = is_among id (told ids o h)
