use Rattle.flow_laws.proofs.Ending.{IsOver, ends_now, goes_on_now, going_now, overs_now}
use Rattle.flow_laws.proofs.Places.{bring}
use Rattle.flow_laws.proofs.laws.an_end_was_due.Goals as goal

pub returns-clause-ends : goal.returns-clause-ends
returns-clause-ends c = λ o p x h w. ends_now o p.flow.talk p.flow.talk.phase p.stream p.front p.ahead p.owed x w

pub returns-clause-over : goal.returns-clause-over
returns-clause-over c = λ o p x h w.
    bring (IsOver x) o p h (overs_now o.accounts p.flow.fed p.flow.talk p.flow.talk.phase p.stream p.front p.ahead p.owed x) h w

pub returns-clause-going : goal.returns-clause-going
returns-clause-going c = λ o p none. going_now p.flow.talk p.flow.talk.phase none

pub returns-clause-goes_on : goal.returns-clause-goes_on
returns-clause-goes_on c = λ o p h going. goes_on_now o p.flow.talk p.flow.talk.phase p.stream p.front p.ahead p.owed going
