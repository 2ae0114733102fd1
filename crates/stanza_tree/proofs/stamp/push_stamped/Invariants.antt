use Rattle.std.proofs.Common.{false, ◌≡◌, ◌≤◌, ◌++◌, drop}
use Rattle.stanza_tree.specs.Appending.{Keeps}
use Rattle.stanza_tree.specs.Stamps.{stamped_text}
use Rattle.stanza_tree.proofs.stamp.push_stamped.Given as goal

abbrev pub invariant-loop-attr : goal.invariant-loop-attr
invariant-loop-attr l = record {
  kept : Keeps l.fn.out l.out;
  few : l.number ≤ l.attr-index;
  joined : l.out.items ++ stamped_text l.is_stamped l.number l.from (drop l.attr-index l.attrs) ≡ l.fn.out.items ++ stamped_text false 0 l.from l.attrs;
}
