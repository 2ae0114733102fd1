use Rattle.std.proofs.Common.{Some}
use Rattle.std.specs.Prelude.{None}
use Rattle.script_play.proofs.Faults.{never}
use Rattle.script_play.proofs.Valid.{ends_played}
use Rattle.commands.proofs.laws.valid_scripts_are_played.Goals as goal

pub returns-clause-ends : goal.returns-clause-ends
returns-clause-ends g c =
    ends_played c.args.source.now (Some c.run.new.source) None None c.run.result c.requires.valid (c.run.ensures.replayed c.requires.task)
    (λ is. never (c.run.ensures.read is)) (λ is. never (c.run.ensures.written is))
