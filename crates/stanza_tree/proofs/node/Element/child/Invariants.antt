use Rattle.std.proofs.Common.{◌≡◌, drop}
use Rattle.stanza_tree.specs.Children.{child_of}
use Rattle.stanza_tree.proofs.node.Element.child.Given as goal

abbrev pub invariant-loop-node : goal.invariant-loop-node
invariant-loop-node l = child_of l.space l.local (drop l.node-index l.node-items) ≡ child_of l.space l.local l.self.children
