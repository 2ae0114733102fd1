use Rattle.std.proofs.Common.{Some}
use Rattle.std.specs.Prelude.{None}
use Rattle.script_play.proofs.Faults.{never}
use Rattle.commands.proofs.Endings.{ends_done}
use Rattle.commands.proofs.laws.accounts_are_made.Goals as goal

pub returns-clause-ends : goal.returns-clause-ends
returns-clause-ends g c =
    ends_done (λ _. None) c.requires.task.0 c.requires.task.1.0 c.requires.line.0 c.args.source.now (Some c.run.new.source) c.args.sink.now c.run.new.sink
    c.run.result c.requires.line.1
    (c.run.ensures.accounted c.requires.task.0 c.requires.task.1.0 c.requires.task.1.1) (λ is. never (c.run.ensures.read is))
    (λ is. never (c.run.ensures.written is))
