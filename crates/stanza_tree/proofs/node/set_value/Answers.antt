use Rattle.std.proofs.Common.{arith}
use Rattle.stanza_tree.proofs.AttributeLemmas.{with_attr-set, with_attr-push, attr_place-le}
use Rattle.stanza_tree.proofs.node.set_value.Goals as goal

pub returns-then-place-len-clause-ok : goal.returns-then-place-len-clause-ok
returns-then-place-len-clause-ok c = grind (arith, with_attr-set c.args.local.now c.args.value c.args.attrs.now.items c.index_mut.result.now)

pub returns-clause-ok : goal.returns-clause-ok
returns-clause-ok c = grind (arith, with_attr-push c.args.local.now c.args.value c.args.attrs.now.items, attr_place-le c.args.local.now c.args.attrs.now.items)
