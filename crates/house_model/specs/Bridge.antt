-- What a history is for one session: operations of a session that goes alone.
use Rattle.std.specs.Prelude.{ℕ, ◌+◌, ◌==◌, List, [], ◌∷◌, ◌++◌, if◌then◌else◌}
use Rattle.stanza_model.specs.declared.stanza.Stanza.{Stanza}
use Rattle.session_table.specs.declared.line.Line as stage
use Rattle.session_table.specs.declared.line.Line.TheVariants.{Bound}
use Rattle.sm_account.specs.Sessions as one
use Rattle.sm_account.specs.Connections as alone
use Rattle.house_model.specs.declared.event.Event.{Event}
use Rattle.house_model.specs.declared.event.Event.TheVariants as event
use Rattle.house_model.specs.Sessions.{Hold, Held, Away, Ended, Gone, Session, Op, Push, Pull, Request, Enable, Ack, Tell, Act, Drop, Resume, End, Part, Marks}
use Rattle.house_model.specs.Traffic.{Traffic, whole}
use Rattle.house_model.specs.States.{World, State, keep}
use Rattle.house_model.specs.Effects.{Effect, Open, At, Begin, On, Note, Hosts, Files, apply}
use Rattle.house_model.specs.Steps.{verdict, turn}
use Rattle.house_model.specs.Histories.{Outcome, Made, Short, Turn, next}

-- a session that departed is over too
abbrev pub hold_of : Hold → one.Hold
hold_of (Held w c) = one.Held c
hold_of Away = one.Away
hold_of (Ended cause) = one.Ended
hold_of Gone = one.Ended

abbrev pub core_of : Session Traffic → one.Core Stanza
core_of s = record {
  counts = s.counts;
  hold = hold_of s.hold;
  queued = s.traffic.queued;
  kept = s.traffic.kept;
  sent = s.traffic.sent;
  asked_at = s.traffic.asked_at;
  base_out = s.traffic.base_out;
  acts = s.traffic.acts;
  base_in = s.traffic.base_in;
}

abbrev pub op_ops : Op → List (one.Op Stanza)
op_ops (Push e) = one.Push e ∷ []
op_ops Pull = one.Pull ∷ []
op_ops Request = one.Request ∷ []
op_ops (Enable id) = one.Enable ∷ []
op_ops (Ack h) = one.Ack h ∷ []
op_ops Tell = one.Ask ∷ []
op_ops (Act x) = one.Act x ∷ []
op_ops (Drop deadline) = one.Drop ∷ []
op_ops (Resume w c h) = one.Resume c h ∷ []
op_ops (End cause) = one.End ∷ []
op_ops Part = []
op_ops (Marks mark) = []

-- what an effect is for session s
abbrev pub effect_ops : ℕ → World Traffic → Effect → List (one.Op Stanza)
effect_ops s world (Open w) = []
effect_ops s world (At w op) = []
effect_ops s world (Note change) = []
effect_ops s world (Hosts x) = []
effect_ops s world (Files filing) = []
effect_ops s world (Begin w c address) = if s == world.made + 1 then one.Begin c ∷ [] else []
effect_ops s world (On i op) = if s == i then op_ops op else []

abbrev pub effects_ops : ℕ → World Traffic → List Effect → List (one.Op Stanza)
effects_ops s world [] = []
effects_ops s world (e ∷ more) = effect_ops s world e ++ effects_ops s (apply whole world e) more

-- a stanza that came on the line of session s, and for which memory was wanting
abbrev pub short_at : ℕ → Stanza → stage.Line → List (one.Op Stanza)
short_at s x (Bound c i) = if s == i then one.Short x ∷ [] else []
short_at s x g = []

abbrev pub short_ops : ℕ → State → Event → List (one.Op Stanza)
short_ops s st (event.Act w x t) = short_at s x (st.world.lines w).stage
short_ops s st e = []

abbrev pub turn_ops : ℕ → State → Event → Outcome → List (one.Op Stanza)
turn_ops s st e (Made reply text) = effects_ops s st.world (verdict (keep (turn e st)) e).effects
turn_ops s st e Short = short_ops s st e

-- what a history is for session s
abbrev pub ops_of : ℕ → State → List Turn → List (one.Op Stanza)
ops_of s st [] = []
ops_of s st (x ∷ more) = turn_ops s st x.event x.outcome ++ ops_of s (next st x) more

-- the session that goes alone
abbrev pub alone_of : ℕ → State → List Turn → alone.Session Stanza
alone_of s o h = alone.after (ops_of s o h)
