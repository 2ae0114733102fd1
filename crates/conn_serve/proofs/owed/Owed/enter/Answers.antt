use Rattle.std.proofs.Common.{◌≡◌}
use Rattle.conn_serve.proofs.Entering.{gives_rest}
use Rattle.conn_serve.proofs.owed.Owed.enter.Goals as goal

pub returns-in-Ok-clause-gives : goal.returns-in-Ok-clause-gives
returns-in-Ok-clause-gives g c =
    let same : c.reserve.new.self.items ≡ c.self.inside.bytes.items = search in
    gives_rest _ _ _ _ _ _ _ _ _ c.self.invariant c.self.view_is (rw same at c.enter.ensures.gives)
