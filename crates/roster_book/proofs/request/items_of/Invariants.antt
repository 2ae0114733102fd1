use Rattle.std.proofs.Common.{◌≡◌, ◌++◌, drop, map}
use Rattle.stanza_model.specs.Rosters.{item, item_node}
use Rattle.roster_book.proofs.request.items_of.Given as goal

abbrev pub invariant-loop-contact : goal.invariant-loop-contact
invariant-loop-contact l = l.nodes.items ++ map item_node (map item (drop l.contact-index l.contacts)) ≡ map item_node (map item l.contacts)
