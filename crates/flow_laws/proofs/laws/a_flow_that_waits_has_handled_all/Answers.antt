use Rattle.flow_laws.proofs.Awaiting.{rests_now}
use Rattle.flow_laws.proofs.laws.a_flow_that_waits_has_handled_all.Goals as goal

pub returns : goal.returns
returns c = λ o p s h prepared w. rests_now o.accounts p.flow.fed p.flow.talk p.flow.talk.phase s h.told h.loaded prepared w
