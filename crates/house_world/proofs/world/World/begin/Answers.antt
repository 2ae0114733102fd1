use Rattle.house_world.proofs.BeginLemmas.{begin_did}
use Rattle.house_world.proofs.world.World.begin.Goals as goal

pub returns-clause-did : goal.returns-clause-did
returns-clause-did c =
    begin_did c.args.self.now c.args.w c.bind.new.self.spare c.args.address c.requires.tied c.requires.line c.requires.logged c.session.ensures.rises
    c.know_short.ensures c.bind.new.self c.bind.ensures.table
