use Rattle.house_world.proofs.FreeLemmas.{closed_free}
use Rattle.house_world.proofs.LeavingLemmas.{free_holds}
use Rattle.house_world.proofs.world.World.close_free.Goals as goal

pub line_over-requires-clause-free : goal.line_over-requires-clause-free
line_over-requires-clause-free c = free_holds c.args.w c.args.self.now.table c.session.ensures.rises c.requires.free

pub returns : goal.returns
returns c =
    closed_free c.args.self.now c.args.w c.requires.tied c.requires.line c.requires.answered c.requires.free
    c.line_over.new.self c.clear.new.self c.args.cause c.line_over.ensures c.clear.ensures
