use Rattle.std.proofs.Common.{rules}
use Rattle.clap.specs.declared.parser.matches.ArgMatches.{ArgMatches}
use Rattle.commands.proofs.TaskLemmas.{replay_refused, replay_some}
use Rattle.commands.proofs.words.read_replay.Goals as goal

pub returns-clause-task : goal.returns-clause-task
returns-clause-task c = replay_refused ArgMatches c.args.words.now c.in-Err.status (search rules)

pub returns-in-Ok-clause-task : goal.returns-in-Ok-clause-task
returns-in-Ok-clause-task c = replay_some c.args.words.now (search rules) (search rules)
