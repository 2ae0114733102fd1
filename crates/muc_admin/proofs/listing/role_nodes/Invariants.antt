use Rattle.std.proofs.Common.{◌≡◌, ◌≤◌, ◌++◌, drop, map}
use Rattle.muc_room.specs.Views.{child_node}
use Rattle.muc_admin.specs.Listings.{fitting, most_text, role_items}
use Rattle.muc_admin.proofs.listing.role_nodes.Given as goal

abbrev pub invariant-loop-occupant : goal.invariant-loop-occupant
invariant-loop-occupant l = record {
  few : l.left ≤ most_text;
  made : l.nodes.items ++ map child_node (fitting l.left (role_items l.fn.room l.fn.role (drop l.occupant-index l.occupants)))
      ≡ map child_node (fitting most_text (role_items l.fn.room l.fn.role l.fn.occupants));
}
