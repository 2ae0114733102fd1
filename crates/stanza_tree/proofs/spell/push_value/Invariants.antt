use Rattle.std.proofs.Common.{◌≡◌, ◌≤◌, ◌++◌, drop, slice_range}
use Rattle.stanza_tree.specs.Appending.{Keeps}
use Rattle.stanza_tree.specs.Spelling.{value_text}
use Rattle.stanza_tree.proofs.spell.push_value.Given as goal

abbrev pub invariant-loop-i : goal.invariant-loop-i
invariant-loop-i l = record {
  within : l.from ≤ l.i;
  joined : l.out.items ++ slice_range l.bytes l.from l.i ++ value_text (drop l.i l.bytes) ≡ l.fn.out.items ++ value_text l.bytes;
  kept : Keeps l.fn.out l.out;
}
