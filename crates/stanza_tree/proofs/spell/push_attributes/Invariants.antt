use Rattle.std.proofs.Common.{◌≡◌, ◌≤◌, ◌++◌, drop}
use Rattle.stanza_tree.specs.Appending.{Keeps}
use Rattle.stanza_tree.specs.Spelling.{attributes}
use Rattle.stanza_tree.proofs.spell.push_attributes.Given as goal

abbrev pub invariant-loop-attr : goal.invariant-loop-attr
invariant-loop-attr l = record {
  kept : Keeps l.fn.out l.out;
  few : l.number ≤ l.attr-index;
  joined : l.out.items ++ attributes l.number (drop l.attr-index l.attrs) ≡ l.fn.out.items ++ attributes 0 l.attrs;
}
