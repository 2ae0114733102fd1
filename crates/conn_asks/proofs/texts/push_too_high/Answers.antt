use Rattle.conn_asks.proofs.Joins.{five}
use Rattle.conn_asks.specs.StreamErrors.{too_high_text}
use Rattle.conn_asks.proofs.texts.push_too_high.Goals as goal

pub returns : goal.returns
unfolding too_high_text
returns c =
    five _ _ _ _ _ _ _ _ _ _ _ c.in_ok-push.ensures c.in_ok-push_decimal.ensures c.in_ok-push-2.ensures c.in_ok-push_decimal-2.ensures c.in_ok-push-3.ensures
