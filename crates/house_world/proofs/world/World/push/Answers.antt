use Rattle.std.specs.Prelude.{◌==◌, if◌then◌else◌}
use Rattle.house_world.proofs.ReadyLemmas.{spare_less}
use Rattle.house_world.proofs.world.World.push.Goals as goal

pub returns-clause-queues : goal.returns-clause-queues
returns-clause-queues c = λ n r has.
    spare_less n (if r == c.args.s then 1 else 0) r c.end.new.self.table (c.end.ensures.queues n r has)
