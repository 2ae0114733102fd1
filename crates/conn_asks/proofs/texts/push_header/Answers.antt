use Rattle.conn_asks.proofs.Joins.{five}
use Rattle.conn_asks.specs.Texts.{header_text}
use Rattle.conn_asks.proofs.texts.push_header.Goals as goal

pub returns : goal.returns
unfolding header_text
returns c = five _ _ _ _ _ _ _ _ _ _ _ c.in_ok-push.ensures c.in_ok-push-2.ensures c.in_ok-push-3.ensures c.in_ok-push-4.ensures c.in_ok-push-5.ensures
