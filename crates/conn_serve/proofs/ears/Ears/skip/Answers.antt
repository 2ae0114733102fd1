use Rattle.conn_serve.proofs.Skipping.{skip_ahead}
use Rattle.conn_serve.proofs.ears.Ears.skip.Goals as goal

pub returns : goal.returns
returns c = skip_ahead c.self.inside.buffer.items c.self.inside.from c.self.inside.to c.args.n c.args.self.now c.self.invariant.0 c.self.view_is c.requires
