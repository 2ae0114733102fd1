use Rattle.conn_asks.proofs.Joins.{put, three}
use Rattle.conn_asks.specs.Texts.{failure_text}
use Rattle.conn_asks.proofs.texts.push_failure.Goals as goal

pub returns : goal.returns
unfolding failure_text
returns c = three _ _ _ _ _ _ _ c.in_ok-push.ensures (put _ _ _ _ c.in_ok-push-2.ensures c.name.ensures) c.in_ok-push-3.ensures
