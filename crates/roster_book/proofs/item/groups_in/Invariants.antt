use Rattle.std.proofs.Common.{◌≡◌, ◌++◌, codes, drop, map}
use Rattle.stanza_tree.specs.Children.{words_of}
use Rattle.roster_book.specs.Items.{parts_of}
use Rattle.roster_book.proofs.item.groups_in.Given as goal

abbrev pub invariant-loop-node : goal.invariant-loop-node
invariant-loop-node l =
    l.groups.items ++ map (λ g. words_of g.children) (parts_of (codes "group") (drop l.node-index l.nodes))
    ≡ map (λ g. words_of g.children) (parts_of (codes "group") l.nodes)
