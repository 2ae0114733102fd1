use Rattle.stanza_tree.proofs.FrameLemmas.{frame-utf8}
use Rattle.stanza_tree.proofs.frame.push_frame.Goals as goal

pub returns-clause-utf8 : goal.returns-clause-utf8
returns-clause-utf8 c = frame-utf8 c.args.entry.now c.bytes-rest.ensures.utf8 c.bytes.ensures.utf8
