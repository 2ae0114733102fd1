use Rattle.house_world.proofs.FreeLemmas.{left_free}
use Rattle.house_world.proofs.LeavingLemmas.{free_holds}
use Rattle.house_world.proofs.world.World.leave_free.Goals as goal

pub clear-requires-clause-free : goal.clear-requires-clause-free
clear-requires-clause-free c = free_holds c.args.w c.args.self.now.table c.session.ensures.rises c.requires.free

pub returns : goal.returns
returns c =
    left_free c.args.self.now c.args.w c.requires.tied c.requires.line c.requires.answered c.requires.free
    c.clear.new.self c.clear-2.new.self c.clear.ensures c.clear-2.ensures
