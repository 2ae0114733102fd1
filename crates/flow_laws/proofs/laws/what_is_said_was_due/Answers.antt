use Rattle.flow_laws.proofs.Places.{bring}
use Rattle.flow_laws.proofs.Saying.{IsSaid, says_now}
use Rattle.flow_laws.proofs.laws.what_is_said_was_due.Goals as goal

pub returns : goal.returns
returns c = λ o p text h w.
    bring (IsSaid text) o p h (says_now o.accounts p.flow.fed p.flow.talk p.flow.talk.phase p.stream p.front p.ahead p.owed text) h w
