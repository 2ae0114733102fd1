use Rattle.flow_laws.proofs.Handling.{IsHandled, handles_now}
use Rattle.flow_laws.proofs.Places.{bring}
use Rattle.flow_laws.proofs.laws.what_is_handled_was_due.Goals as goal

pub returns : goal.returns
returns c = λ o p s h prepared.
    bring (IsHandled s) o p h (handles_now o.accounts p.flow.fed p.flow.talk p.flow.talk.phase p.stream p.front p.ahead p.owed s) h prepared
