-- The checks before an event, in one gate: no connection, one that is over, one that is not at the stage for this, or one for which too many
-- answers wait already. What the gate lets through is the line's connection with its user or session.
use Rattle.std.specs.Prelude.{ℕ, ◌+◌, ◌*◌, nat_le, List, [], ◌∷◌, ◌++◌, length, Option, Some, None, Bool, true, false, ◌&&◌}
use Rattle.sm_resume.specs.declared.decision.Cause.TheVariants.{Flood, Closed, Lost}
use Rattle.sm_resume.specs.declared.id.ResumeId.{ResumeId}
use Rattle.session_table.specs.declared.line.Line as stage
use Rattle.session_table.specs.declared.line.Line.TheVariants.{Empty, Fresh, Logged, Bound, Over}
use Rattle.house_model.specs.declared.event.Event.{Event}
use Rattle.house_model.specs.declared.event.Event.TheVariants as event
use Rattle.house_model.specs.declared.reply.Reply.{Reply}
use Rattle.house_model.specs.declared.reply.Reply.TheVariants as reply
use Rattle.house_model.specs.Sessions.{Op, Drop, End}
use Rattle.house_model.specs.States.{Line, Kept}
use Rattle.house_model.specs.Effects.{Effect, At, On, Close}

-- what is answered, what is done, and the text of the frame that is given
pub record Verdict : Type 0 where
  pub reply : Reply
  pub effects : List Effect
  pub text : List ℕ

abbrev pub does : Reply → List Effect → Verdict
does r effects = record { reply = r; effects = effects; text = [] }

-- an answer that changes nothing
abbrev pub only : Reply → Verdict
only r = does r []

-- the frame that is given, and what that does
abbrev pub gives : List ℕ → List Effect → Verdict
gives text effects = record { reply = reply.Frame; effects = effects; text = text }

-- What comes of the checks: the verdict; an event that needs no connection; one that has not logged in; one with its user; or one with its session.
pub data Pass : Type 0 where
  Stop : (verdict : Verdict) → Pass
  Free : Pass
  Waits : Pass
  Knows : (conn user : ℕ) → Pass
  Holds : (conn s : ℕ) → Pass

-- the stages that an event may come at, and whether it may add an answer
pub record Needs : Type 0 where
  pub fresh : Bool
  pub logged : Bool
  pub bound : Bool
  pub answers : Bool

abbrev pub to_login : Needs
to_login = record { fresh = true; logged = false; bound = false; answers = false }

abbrev pub to_bind : Needs
to_bind = record { fresh = false; logged = true; bound = false; answers = true }

-- XEP-0198, 3 and 5
abbrev pub to_manage : Needs
to_manage = record { fresh = false; logged = true; bound = true; answers = true }

abbrev pub to_act : Needs
to_act = record { fresh = false; logged = false; bound = true; answers = false }

abbrev pub to_ask : Needs
to_ask = record { fresh = false; logged = false; bound = true; answers = true }

abbrev pub to_pull : Needs
to_pull = record { fresh = true; logged = true; bound = true; answers = false }

-- how many answers may wait
abbrev pub most_answers : ℕ
most_answers = 8

abbrev pub is_full : Needs → Line → Bool
is_full n l = n.answers && nat_le most_answers (length l.answers)

-- how long a session that lost its connection can be resumed, in seconds, and in milliseconds
abbrev pub patience_seconds : ℕ
patience_seconds = 300

abbrev pub patience : ℕ
patience = 1000 * patience_seconds

-- XEP-0198, 5: what becomes of the session whose connection is lost: with an id it can be resumed until the deadline
abbrev pub left_by : Option ResumeId → ℕ → Op
left_by None moment = End Lost
left_by (Some id) moment = Drop (moment + patience)

abbrev pub left : Kept → stage.Line → List Effect
left k (Bound c s) = On s (left_by (k.world.sessions s).rest.resume_id k.head.moment) ∷ []
left k g = []

-- where the client closed its stream (RFC 6120, 4.4)
abbrev pub closed : stage.Line → List Effect
closed (Bound c s) = On s (End Closed) ∷ []
closed g = []

-- a connection for which too many answers wait is over, and its session is left
abbrev pub flooded : Bool → Kept → (w conn : ℕ) → stage.Line → Pass → Pass
flooded false k w c g pass = pass
flooded true k w c g pass = Stop (does (reply.Over (Flood most_answers)) (left k g ++ At w (Close c (Flood most_answers)) ∷ []))

abbrev pub ready : Bool → Pass → Pass
ready true pass = pass
ready false pass = Stop (only reply.Unready)

abbrev pub gate_at : Needs → Kept → ℕ → Line → stage.Line → Pass
gate_at n k w l Empty = Stop (only reply.Absent)
gate_at n k w l (Over c cause) = Stop (only (reply.Over cause))
gate_at n k w l (Fresh c) = ready n.fresh (flooded (is_full n l) k w c (Fresh c) Waits)
gate_at n k w l (Logged c u) = ready n.logged (flooded (is_full n l) k w c (Logged c u) (Knows c u))
gate_at n k w l (Bound c s) = ready n.bound (flooded (is_full n l) k w c (Bound c s) (Holds c s))

abbrev pub checked : Needs → Kept → ℕ → Pass
checked n k w = gate_at n k w (k.world.lines w) (k.world.lines w).stage

abbrev pub gate : Kept → Event → Pass
gate k (event.OpenLine w) = Free
gate k (event.Login w user) = checked to_login k w
gate k (event.Bind w id resource t dice) = checked to_bind k w
gate k (event.Enable w wants dice) = checked to_manage k w
gate k (event.Resume w id h t) = checked to_manage k w
gate k (event.Act w stanza t) = checked to_act k w
gate k (event.Ack w h) = checked to_act k w
gate k (event.Ask w) = checked to_ask k w
gate k (event.Pull w t) = checked to_pull k w
gate k (event.DropLine w t) = Free
gate k (event.CloseLine w t) = Free
gate k (event.Sweep w t) = Free
