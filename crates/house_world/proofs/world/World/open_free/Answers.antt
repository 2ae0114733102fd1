use Rattle.std.proofs.Common.{arith}
use Rattle.house_world.proofs.FreeLemmas.{opened_free}
use Rattle.house_world.proofs.world.World.open_free.Goals as goal

pub returns-clause-did : goal.returns-clause-did
returns-clause-did c =
    let few = c.requires.few.opened in
    let number = c.open_conn.ensures.number in
    opened_free c.args.self.now c.args.w c.requires.tied c.requires.line c.requires.answered c.requires.free
    c.open_conn.new.self c.open_conn.result c.clear.new.self c.open_conn.ensures.table (omega (arith, few, number)) c.clear.ensures
