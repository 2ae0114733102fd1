use Rattle.std.specs.Prelude.{None}
use Rattle.script_play.proofs.Faults.{never}
use Rattle.commands.proofs.Drills.{ends_drilled}
use Rattle.commands.proofs.laws.drills_are_run.Goals as goal

pub returns-clause-ends : goal.returns-clause-ends
returns-clause-ends g c =
    ends_drilled (λ _. None) c.requires.task.0 c.requires.task.1.0 c.args.sink.now c.run.new.sink c.run.result
    (c.run.ensures.drilled c.requires.task.0 c.requires.task.1.0 c.requires.task.1.1) (λ is. never (c.run.ensures.written is))
