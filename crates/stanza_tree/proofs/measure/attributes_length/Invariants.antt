use Rattle.std.proofs.Common.{◌≡◌, ◌<◌, ◌≤◌, ◌+◌, ◌-◌, ◌^◌, drop, length, min}
use Rattle.stanza_tree.specs.Spelling.{attributes}
use Rattle.stanza_tree.proofs.measure.attributes_length.Given as goal

abbrev pub invariant-loop-attr : goal.invariant-loop-attr
invariant-loop-attr l = record {
  few : l.number ≤ l.attr-index;
  fits : l.sum < 2 ^ 64;
  whole : min (l.sum + length (attributes l.number (drop l.attr-index l.attrs))) (2 ^ 64 - 1) ≡ min (length (attributes 0 l.attrs)) (2 ^ 64 - 1);
}
