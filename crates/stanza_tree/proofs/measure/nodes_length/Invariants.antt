use Rattle.std.proofs.Common.{◌≡◌, ◌<◌, ◌+◌, ◌-◌, ◌^◌, drop, length, min}
use Rattle.stanza_tree.specs.Spelling.{texts_under}
use Rattle.stanza_tree.proofs.measure.nodes_length.Given as goal

abbrev pub invariant-loop-node : goal.invariant-loop-node
invariant-loop-node l = record {
  fits : l.sum < 2 ^ 64;
  whole : min (l.sum + length (texts_under l.parent (drop l.node-index l.nodes))) (2 ^ 64 - 1) ≡ min (length (texts_under l.parent l.nodes)) (2 ^ 64 - 1);
}
