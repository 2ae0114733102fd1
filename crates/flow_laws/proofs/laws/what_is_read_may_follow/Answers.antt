use Rattle.flow_laws.proofs.Reading.{AreHeard, AreHeardOn, AreLate, IsHung, IsQuiet, bring_idle}
use Rattle.flow_laws.proofs.Reading.{bring_rest, hangs_now, hears_now, hears_on_now, lates_now, waits_now}
use Rattle.flow_laws.proofs.laws.what_is_read_may_follow.Goals as goal

pub returns-clause-hears : goal.returns-clause-hears
returns-clause-hears c = λ o p t bytes h at none owes some early.
    bring_idle (AreHeard bytes t o) p at none owes (hears_now o p.flow.fed p.flow.talk p.stream p.front bytes t) h some early

pub returns-clause-lates : goal.returns-clause-lates
returns-clause-lates c = λ o p t bytes h at none owes some late.
    bring_idle (AreLate bytes t o) p at none owes (lates_now o p.flow.fed p.flow.talk p.stream p.front bytes t) h some late

pub returns-clause-goes_on : goal.returns-clause-goes_on
returns-clause-goes_on c = λ o p h at some.
    bring_rest (AreHeardOn o) p at (hears_on_now o p.flow.fed p.flow.talk p.stream p.front p.ahead p.owed) h some

pub returns-clause-waits : goal.returns-clause-waits
returns-clause-waits c = λ o p t h at none owes. bring_idle (IsQuiet t o) p at none owes (waits_now o p.flow.fed p.flow.talk p.stream p.front t) h

pub returns-clause-hangs : goal.returns-clause-hangs
returns-clause-hangs c = λ o p t h at none owes. bring_idle (IsHung t o) p at none owes (hangs_now o p.flow.fed p.flow.talk p.stream p.front t) h
