use Rattle.std.proofs.Common.{◌≡◌, ◌<◌, ◌≤◌, ◌+◌, ◌-◌, ◌^◌, drop, length, min}
use Rattle.stanza_tree.specs.Spelling.{declarations}
use Rattle.stanza_tree.proofs.measure.declarations_length.Given as goal

abbrev pub invariant-loop-attr : goal.invariant-loop-attr
invariant-loop-attr l = record {
  few : l.number ≤ l.attr-index;
  fits : l.sum < 2 ^ 64;
  whole : min (l.sum + length (declarations l.number (drop l.attr-index l.attrs))) (2 ^ 64 - 1) ≡ min (length (declarations 0 l.attrs)) (2 ^ 64 - 1);
}
