-- What a client is told that asks for a session.
use Rattle.std.specs.Prelude.{ℕ, ◌<◌, ◌^◌, ◌&&◌, List, [], ◌∷◌, Bool, Option, Some, None}
use Rattle.jid_core.specs.Addresses.{Address, same_bare}
use Rattle.sm_queue.specs.Queues.{sent_count}
use Rattle.sm_resume.specs.declared.decision.Cause.TheVariants as cause
use Rattle.sm_resume.specs.declared.decision.Decision.{Decision}
use Rattle.sm_resume.specs.declared.decision.Decision.TheVariants.{Take, Unknown, NotYours, Ended, TooHigh}
use Rattle.sm_resume.specs.declared.decision.Facts.{Facts}
use Rattle.sm_resume.specs.declared.id.ResumeId.{ResumeId}
use Rattle.session_table.specs.Sessions.{SessionRecord, is_over}
use Rattle.house_model.specs.declared.answer.Answer.TheVariants as answer
use Rattle.house_model.specs.declared.reply.Reply.TheVariants as reply
use Rattle.house_model.specs.Sessions.{Session, Resume}
use Rattle.house_model.specs.Traffic.{KeptTraffic, kept_inward}
use Rattle.house_model.specs.Effects.{At, On, Say, Close}
use Rattle.house_model.specs.Gate.{Verdict, does}
use Rattle.house_model.specs.Steps.{has_id}

-- the bare address is the user's
abbrev pub users_address : (user domain : List ℕ) → Address
users_address user domain = record { local = Some user; domain = domain; resource = Some [] }

-- the session counts, has this id, and is the user's
abbrev pub is_known_to : (user domain : List ℕ) → ResumeId → Session KeptTraffic → Bool
is_known_to user domain id s = s.counts && (has_id s.rest.resume_id id && same_bare s.rest.address (users_address user domain))

abbrev pub facts_with : (user domain : List ℕ) → SessionRecord → Option ResumeId → Option Facts
facts_with user domain x None = None
facts_with user domain x (Some id) = Some (record {
  digits = id.digits;
  yours = same_bare x.address (users_address user domain);
  ended = is_over x.state;
  kept = x.queue.kept;
  sent = sent_count x.queue;
})

-- what is known of the session of an id, for a user
abbrev pub facts_by : (user domain : List ℕ) → Option SessionRecord → Option Facts
facts_by user domain None = None
facts_by user domain (Some x) = facts_with user domain x x.resume_id

-- the counts of its queue are below 2^32
pub record IsNarrow (x : SessionRecord) : Type 0 where
  pub kept : x.queue.kept < 2 ^ 32
  pub given : x.queue.given < 2 ^ 32

-- what is answered and done
abbrev pub verdict_by : Decision → (w conn s h : ℕ) → ResumeId → KeptTraffic → Verdict
verdict_by (Take n) w c s h id t = does reply.Resumed (On s (Resume w c h) ∷ At w (Say (answer.Resumed (kept_inward t) id)) ∷ [])
verdict_by (TooHigh g kept sent) w c s h id t = does (reply.Over (cause.TooHigh g kept sent)) (At w (Close c (cause.TooHigh g kept sent)) ∷ [])
verdict_by Unknown w c s h id t = does reply.Done (At w (Say answer.NotFound) ∷ [])
verdict_by NotYours w c s h id t = does reply.Done (At w (Say answer.NotFound) ∷ [])
verdict_by Ended w c s h id t = does reply.Done (At w (Say answer.NotFound) ∷ [])
