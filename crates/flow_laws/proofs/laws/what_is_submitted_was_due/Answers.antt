use Rattle.std.proofs.Common.{◌≡◌, ℕ, subst, sym}
use Rattle.house_model.specs.declared.event.Event.{Event}
use Rattle.conn_flow.specs.Duties.{Site}
use Rattle.conn_flow.specs.Flows.{ToSubmit, wish_of}
use Rattle.flow_laws.specs.Standing.{IsFit, IsFitAt, IsServed, Place}
use Rattle.flow_laws.proofs.Answering.{IsEntered}
use Rattle.flow_laws.proofs.Places.{bring}
use Rattle.flow_laws.proofs.Submitting.{IsShorted, enters_due_now, enters_now, meets_now, shorts_now}
use Rattle.flow_laws.proofs.laws.what_is_submitted_was_due.Goals as goal

fits : (o : Site) (p : Place) (e : Event) → IsServed o p → wish_of p.flow ≡ ToSubmit e → IsFitAt o.line e
fits o p e h w =
    subst (λ (line : ℕ). IsFitAt line e) h.line
    (meets_now p.flow.talk p.flow.talk.phase e (subst (λ (line : ℕ). IsFit line p.flow.talk.event) (sym h.line) h.event_fits) w)

pub returns-clause-enters : goal.returns-clause-enters
returns-clause-enters c = λ o p e r text h w.
    bring (IsEntered e r text) o p h (enters_now o.accounts p.flow.fed p.flow.talk p.flow.talk.phase p.stream p.front p.ahead p.owed e r text) h w

pub returns-clause-shorts : goal.returns-clause-shorts
returns-clause-shorts c = λ o p e h may w.
    bring (IsShorted e) o p h (shorts_now o.accounts p.flow.fed p.flow.talk p.flow.talk.phase p.stream p.front p.ahead p.owed e) h may w

pub returns-clause-meets : goal.returns-clause-meets
returns-clause-meets c = λ o p e h w. (fits o p e h w).0

pub returns-clause-line : goal.returns-clause-line
returns-clause-line c = λ o p e h w. (fits o p e h w).1

pub returns-clause-next : goal.returns-clause-next
returns-clause-next c = λ o p e h w. enters_due_now o p.flow.talk p.flow.talk.phase p.stream p.front p.ahead p.owed e w
