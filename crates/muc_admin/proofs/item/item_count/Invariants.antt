use Rattle.std.proofs.Common.{◌≡◌, ◌+◌, ◌≤◌, drop, length}
use Rattle.muc_admin.specs.Items.{items_of}
use Rattle.muc_admin.proofs.item.item_count.Given as goal

abbrev pub invariant-loop-node : goal.invariant-loop-node
invariant-loop-node l = record {
  counted : l.count + length (items_of (drop l.node-index l.nodes)) ≡ length (items_of l.nodes);
  few : l.count ≤ l.node-index;
}
