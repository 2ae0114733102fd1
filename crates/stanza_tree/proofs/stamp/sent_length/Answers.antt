use Rattle.std.proofs.Common.{arith, ap, length}
use Rattle.std.proofs.lemmas.Grind.{common_steps}
use Rattle.stanza_tree.specs.Spelling.{texts_under}
use Rattle.stanza_tree.proofs.StampLemmas.{text-sent}
use Rattle.stanza_tree.proofs.stamp.sent_length.Goals as goal

pub returns : goal.returns
returns c =
    let e = ap length (text-sent c.args.from.now c.args.element.now) in
    let content = c.closed_length.ensures.whole (texts_under c.args.element.now.name.space c.args.element.now.children) in
    grind (arith, common_steps, e, content)
