use Rattle.std.proofs.Common.{◌≡◌, ◌<◌, ◌+◌, ◌^◌, drop, length, min}
use Rattle.stanza_tree.specs.Spelling.{texts_under}
use Rattle.stanza_tree.proofs.measure.+element_length.Given as goal

abbrev pub invariant-loop-node : goal.invariant-loop-node
invariant-loop-node l = record {
  same : l.node-items ≡ l.element.children;
  fits : l.content < 2 ^ 64;
  whole : min (l.content + length (texts_under l.element.name.space (drop l.node-index l.node-items))) l.most
      ≡ min (length (texts_under l.element.name.space l.node-items)) l.most;
}
