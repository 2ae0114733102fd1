use Rattle.std.proofs.Common.{◌≡◌, ◌+◌, drop}
use Rattle.stanza_tree.specs.Attributes.{attr_place}
use Rattle.stanza_tree.proofs.node.place_of.Given as goal

abbrev pub invariant-loop-i : goal.invariant-loop-i
invariant-loop-i l = l.i + attr_place l.local (drop l.i l.attrs) ≡ attr_place l.local l.attrs
