use Rattle.conn_serve.proofs.Skipping.{taken_fits}
use Rattle.conn_serve.proofs.listen.hear.Goals as goal

pub skip-requires : goal.skip-requires
skip-requires c = taken_fits c.args.flow.now _ _ c.in-Ok.ensures.taken c.ahead.ensures
