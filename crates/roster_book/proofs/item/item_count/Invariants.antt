use Rattle.std.proofs.Common.{◌≡◌, ◌+◌, ◌≤◌, codes, drop, length}
use Rattle.roster_book.specs.Items.{parts_of}
use Rattle.roster_book.proofs.item.item_count.Given as goal

abbrev pub invariant-loop-node : goal.invariant-loop-node
invariant-loop-node l = record {
  counted : l.count + length (parts_of (codes "item") (drop l.node-index l.nodes)) ≡ length (parts_of (codes "item") l.nodes);
  few : l.count ≤ l.node-index;
}
