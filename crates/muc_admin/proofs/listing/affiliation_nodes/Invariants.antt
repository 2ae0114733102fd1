use Rattle.std.proofs.Common.{◌≡◌, ◌++◌, drop, map}
use Rattle.muc_room.specs.Views.{child_node}
use Rattle.muc_admin.specs.Listings.{affiliation_items}
use Rattle.muc_admin.proofs.listing.affiliation_nodes.Given as goal

abbrev pub invariant-loop-x : goal.invariant-loop-x
invariant-loop-x l =
    l.nodes.items ++ map child_node (affiliation_items l.fn.affiliation (drop l.x-index l.known))
    ≡ map child_node (affiliation_items l.fn.affiliation l.fn.known)
