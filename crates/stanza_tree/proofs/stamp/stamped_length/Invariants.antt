use Rattle.std.proofs.Common.{false, ◌≡◌, ◌<◌, ◌≤◌, ◌+◌, ◌-◌, ◌^◌, drop, length, min}
use Rattle.stanza_tree.specs.Stamps.{stamped_text}
use Rattle.stanza_tree.proofs.stamp.stamped_length.Given as goal

abbrev pub invariant-loop-attr : goal.invariant-loop-attr
invariant-loop-attr l = record {
  few : l.number ≤ l.attr-index;
  fits : l.sum < 2 ^ 64;
  whole : min (l.sum + length (stamped_text l.is_stamped l.number l.from (drop l.attr-index l.attrs))) (2 ^ 64 - 1)
      ≡ min (length (stamped_text false 0 l.from l.attrs)) (2 ^ 64 - 1);
}
