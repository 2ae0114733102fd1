use Rattle.std.proofs.Common.{◌≡◌, ◌++◌, drop, IsUtf8}
use Rattle.muc_room.specs.Views.{shown_children}
use Rattle.muc_room.proofs.views.shown_children.Given as goal

abbrev pub invariant-loop-node : goal.invariant-loop-node
invariant-loop-node l = record {
  joined : l.bytes.items ++ shown_children (drop l.node-index l.nodes) ≡ shown_children l.nodes;
  utf8 : IsUtf8 l.bytes.items;
}
