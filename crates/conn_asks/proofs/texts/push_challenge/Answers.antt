use Rattle.conn_asks.proofs.Joins.{three}
use Rattle.conn_asks.specs.Texts.{challenge_text}
use Rattle.conn_asks.proofs.texts.push_challenge.Goals as goal

pub returns : goal.returns
unfolding challenge_text
returns c = three _ _ _ _ _ _ _ c.in_ok-push.ensures c.in_ok-push_base64.ensures c.in_ok-push-2.ensures
