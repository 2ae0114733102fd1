use Rattle.conn_asks.proofs.Joins.{five, put}
use Rattle.conn_asks.specs.StreamErrors.{error_text}
use Rattle.conn_asks.proofs.texts.push_error.Goals as goal

pub returns : goal.returns
unfolding error_text
returns c =
    five _ _ _ _ _ _ _ _ _ _ _ c.in_ok-push.ensures (put _ _ _ _ c.in_ok-push-2.ensures c.name.ensures) c.in_ok-push-3.ensures c.in_ok-push_application.ensures
    c.in_ok-push-4.ensures
