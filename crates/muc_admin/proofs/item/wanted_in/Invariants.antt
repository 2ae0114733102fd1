use Rattle.std.proofs.Common.{◌≡◌, ◌++◌, drop, map}
use Rattle.muc_admin.specs.Items.{items_of, wanted_by}
use Rattle.muc_admin.proofs.item.wanted_in.Given as goal

abbrev pub invariant-loop-node : goal.invariant-loop-node
invariant-loop-node l = l.all.items ++ map wanted_by (items_of (drop l.node-index l.nodes)) ≡ map wanted_by (items_of l.nodes)
