use Rattle.replay_script.proofs.IdLemmas.{id_read}
use Rattle.replay_script.proofs.numbers.read_resume_id.Goals as goal

pub returns : goal.returns
returns c = id_read c.args.token.now c.read.result c.read.ensures.spelt c.read.ensures.found
