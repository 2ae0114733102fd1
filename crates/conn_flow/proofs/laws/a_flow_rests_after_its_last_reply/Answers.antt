use Rattle.conn_flow.proofs.Calling.{rests}
use Rattle.conn_flow.proofs.laws.a_flow_rests_after_its_last_reply.Goals as goal

pub returns : goal.returns
returns c = λ s s' call does. rests s s' call does
