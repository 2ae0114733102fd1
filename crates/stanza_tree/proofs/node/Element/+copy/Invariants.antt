use Rattle.std.proofs.Common.{◌≡◌, take}
use Rattle.stanza_tree.proofs.node.Element.+copy.Given as goal

abbrev pub invariant-loop-node : goal.invariant-loop-node
invariant-loop-node l = record {
  same : l.node-items ≡ l.self.children;
  copied : l.children.items ≡ take l.node-index l.node-items;
}
