use Rattle.std.proofs.Common.{Some}
use Rattle.std.specs.Prelude.{None}
use Rattle.script_play.proofs.Faults.{never}
use Rattle.script_play.proofs.Valid.{ends_played}
use Rattle.script_play.proofs.laws.valid_scripts_are_played.Goals as goal

pub returns-clause-ends : goal.returns-clause-ends
returns-clause-ends c =
    ends_played c.args.source.now (Some c.replay.new.source) None None c.replay.result c.requires.valid c.replay.ensures.replayed
    (λ is. never (c.replay.ensures.read is)) (λ is. never (c.replay.ensures.written is))
