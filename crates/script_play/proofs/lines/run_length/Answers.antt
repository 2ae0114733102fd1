use Rattle.script_play.proofs.Feeds.{text_length}
use Rattle.script_play.proofs.lines.run_length.Goals as goal

pub returns-clause-plain : goal.returns-clause-plain
returns-clause-plain c = text_length c.args.bytes.now c.min.result c.unwrap_or.result c.memchr.result c.memchr.ensures c.unwrap_or.ensures
