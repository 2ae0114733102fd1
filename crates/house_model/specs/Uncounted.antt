-- The frames of a session whose stanzas are not counted (XEP-0198 is not enabled), read off the house's history: what Pull gave on the line that
-- holds it, but for answers. An answer is given exactly where one waits.
use Rattle.std.specs.Prelude.{◌≡◌, ℕ, ◌==◌, List, [], ◌∷◌, map, take, false, if◌then◌else◌}
use Rattle.stanza_tree.specs.Entries.{frame}
use Rattle.session_table.specs.declared.line.Line as stage
use Rattle.session_table.specs.declared.line.Line.TheVariants.{Bound}
use Rattle.house_model.specs.declared.answer.Answer.{Answer}
use Rattle.house_model.specs.declared.event.Event.{Event}
use Rattle.house_model.specs.declared.event.Event.TheVariants as event
use Rattle.house_model.specs.declared.reply.Reply.{Reply}
use Rattle.house_model.specs.declared.reply.Reply.TheVariants as reply
use Rattle.house_model.specs.Traffic.{Traffic}
use Rattle.house_model.specs.States.{State}
use Rattle.house_model.specs.Histories.{Outcome, Made, Turn, after}
use Rattle.house_model.specs.Lines.{told}

-- of a line on which session s is bound
abbrev pub of_session : ℕ → List (List ℕ) → stage.Line → List (List ℕ)
of_session s texts (Bound c i) = if s == i then texts else []
of_session s texts g = []

-- Pull: where no answer waits, the text of the frame, as the history has it
abbrev pub frame_by : ℕ → stage.Line → List Answer → Reply → List ℕ → List (List ℕ)
frame_by s g [] reply.Frame text = of_session s (text ∷ []) g
frame_by s g answers r text = []

abbrev pub frame_given : ℕ → State → Event → Outcome → List (List ℕ)
frame_given s st (event.Pull w t) (Made r text) = frame_by s (st.world.lines w).stage (st.world.lines w).answers r text
frame_given s st e o = []

-- the frames that were pulled for session s, in order, but for answers
abbrev pub frames_pulled : State → List Turn → ℕ → List (List ℕ)
frames_pulled o h s = told (frame_given s) o h

-- the frames of a queue up to what was sent
abbrev pub sent_frames : Traffic → List (List ℕ)
sent_frames t = map frame (take t.sent t.queued)

-- Of every session that doesn't count, the frames that were pulled are those of its queue up to what was sent: also of one that is over or departed,
-- whose queue stays in the state. One that isn't made yet has no queue, and nothing was pulled for it.
abbrev pub FramesAreTheQueue : State → List Turn → Type 0
FramesAreTheQueue o h = (s : ℕ) → ((after o h).world.sessions s).counts ≡ false
    → frames_pulled o h s ≡ sent_frames ((after o h).world.sessions s).traffic
