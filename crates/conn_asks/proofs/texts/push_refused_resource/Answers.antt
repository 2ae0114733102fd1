use Rattle.conn_asks.proofs.Joins.{three}
use Rattle.conn_asks.specs.Texts.{refused_resource_text}
use Rattle.conn_asks.proofs.texts.push_refused_resource.Goals as goal

pub returns : goal.returns
unfolding refused_resource_text
returns c = three _ _ _ _ _ _ _ c.in_ok-push.ensures c.in_ok-push_value.ensures c.in_ok-push-2.ensures
