use Rattle.flow_laws.proofs.Drawing.{IsDrawn, draws_due_now, draws_now}
use Rattle.flow_laws.proofs.Places.{bring}
use Rattle.flow_laws.proofs.laws.what_is_drawn_was_due.Goals as goal

pub returns-clause-draws : goal.returns-clause-draws
returns-clause-draws c = λ o p dice h long w.
    bring (IsDrawn dice) o p h (draws_now o.accounts p.flow.fed p.flow.talk p.flow.talk.phase p.stream p.front p.ahead p.owed dice) h long w

pub returns-clause-next : goal.returns-clause-next
returns-clause-next c = λ o p h w. draws_due_now o p.flow.talk p.flow.talk.phase p.stream p.front p.ahead p.owed h.loaded w
