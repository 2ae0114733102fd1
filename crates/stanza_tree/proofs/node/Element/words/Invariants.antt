use Rattle.std.proofs.Common.{◌≡◌, ◌++◌, drop, IsUtf8}
use Rattle.stanza_tree.specs.Children.{words_of}
use Rattle.stanza_tree.proofs.node.Element.words.Given as goal

abbrev pub invariant-loop-node : goal.invariant-loop-node
invariant-loop-node l = record {
  joined : l.joined.items ++ words_of (drop l.node-index l.node-items) ≡ words_of l.self.children;
  utf8 : IsUtf8 l.joined.items;
}
