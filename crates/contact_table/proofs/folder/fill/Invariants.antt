use Rattle.std.proofs.Common.{◌≤◌, length}
use Rattle.contact_table.specs.Folders.{IsNamed}
use Rattle.contact_table.proofs.folder.fill.Given as goal

abbrev pub invariant-loop-number : goal.invariant-loop-number
invariant-loop-number l = record {
  full : l._number ≤ length l.names.items;
  kept : length l.fn.names.items ≤ length l.names.items;
  named : IsNamed l.user l.fn.names.items → IsNamed l.user l.names.items;
}
