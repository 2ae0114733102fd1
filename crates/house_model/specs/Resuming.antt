-- Requests to resume a session (XEP-0198, 5), and departures.
use Rattle.std.specs.Prelude.{◌≡◌, ℕ, ◌<◌, ◌≤◌, List, [], ◌∷◌, ◌++◌, length, Option, Some, None, Bool, true, false, ⊤}
use Rattle.jid_core.specs.Addresses.{same_address, same_bare}
use Rattle.sm_resume.specs.declared.decision.Cause.TheVariants.{Moved}
use Rattle.sm_resume.specs.declared.id.ResumeId.{ResumeId}
use Rattle.session_table.specs.declared.line.Line.TheVariants.{Logged, Bound, Over}
use Rattle.house_model.specs.declared.answer.Answer.TheVariants as answer
use Rattle.house_model.specs.declared.event.Event.{Event}
use Rattle.house_model.specs.declared.event.Event.TheVariants as event
use Rattle.house_model.specs.declared.reply.Reply.TheVariants as reply
use Rattle.house_model.specs.Sessions.{Hold, Held, Away, Ended, Gone, Session}
use Rattle.house_model.specs.Traffic.{Traffic, inward}
use Rattle.house_model.specs.States.{State, keep}
use Rattle.house_model.specs.Gate.{most_answers}
use Rattle.house_model.specs.Steps.{Step, bound_address, resource_or, turn}
use Rattle.house_model.specs.Histories.{step}

-- A request is in turn on a connection that logged in, where fewer than 8 answers wait.
pub record InTurn (st : State) (w c user : ℕ) : Type 0 where
  pub logged : (st.world.lines w).stage ≡ Logged c user
  pub few : length (st.world.lines w).answers < most_answers

-- neither over nor departed
abbrev pub is_live : Hold → Bool
is_live (Held w c) = true
is_live Away = true
is_live (Ended cause) = false
is_live Gone = false

abbrev pub is_of_user : State → ℕ → Session Traffic → Bool
is_of_user st user s = same_bare s.rest.address (bound_address (keep st) user [])

-- the answer is `failed` with `item-not-found`
pub record IsNotFound (st : State) (w : ℕ) (after : Step Traffic) : Type 0 where
  pub done : after.reply ≡ reply.Done
  pub answers : (after.state.world.lines w).answers ≡ (st.world.lines w).answers ++ answer.NotFound ∷ []

-- Connection c of line w holds session s from now on, and is given its queue from this place on; the connection that held it before, if one did,
-- is over.
pub record HoldsFrom (st : State) (w c s place : ℕ) (after : Step Traffic) : Type 0 where
  pub line : (after.state.world.lines w).stage ≡ Bound c s
  pub hold : (after.state.world.sessions s).hold ≡ Held w c
  pub queued : (after.state.world.sessions s).traffic.queued ≡ (st.world.sessions s).traffic.queued
  pub sent : (after.state.world.sessions s).traffic.sent ≡ place
  pub deadline : (after.state.world.sessions s).rest.deadline ≡ None
  pub moved : (v d : ℕ) → (st.world.sessions s).hold ≡ Held v d → (after.state.world.lines v).stage ≡ Over d (Moved c)

-- the answer is `resumed`, with the count of what was acted on for the client, and the connection holds the session
pub record IsResumed (st : State) (w c place : ℕ) (id : ResumeId) (after : Step Traffic) : Type 0 where
  pub resumed : after.reply ≡ reply.Resumed
  pub answers : (after.state.world.lines w).answers
      ≡ (st.world.lines w).answers ++ answer.Resumed (inward (st.world.sessions id.session).traffic) id ∷ []
  pub bound : HoldsFrom st w c id.session place after

-- it is over, or may be resumed no more
abbrev pub IsOverOrDue : ℕ → Hold → Option ℕ → Type 0
IsOverOrDue now (Ended cause) deadline = ⊤
IsOverOrDue now hold None = ⊥
IsOverOrDue now hold (Some deadline) = deadline ≤ now

-- a Sweep takes session s away, which is over or past its deadline
abbrev pub IsSwept : State → Event → ℕ → Type 0
IsSwept st (event.Sweep w t) s = ((step st (event.Sweep w t)).reply ≡ reply.Swept s)
    × IsOverOrDue (turn (event.Sweep w t) st).head.moment (st.world.sessions s).hold (st.world.sessions s).rest.deadline
IsSwept st e s = ⊥

-- a Bind makes a session of its address
pub record TakesAddress (st : State) (e : Event) (w user s : ℕ) (resource : List ℕ) : Type 0 where
  pub conn : ℕ
  pub logged : (st.world.lines w).stage ≡ Logged conn user
  pub bound : (step st e).reply ≡ reply.Bound
  pub same : same_address (st.world.sessions s).rest.address (bound_address (keep st) user resource) ≡ true

abbrev pub IsReplaced : State → Event → ℕ → Type 0
IsReplaced st (event.Bind w id resource t dice) s = (user : ℕ)
    × TakesAddress st (event.Bind w id resource t dice) w user s (resource_or dice resource)
IsReplaced st e s = ⊥
