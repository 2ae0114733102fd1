use Rattle.std.proofs.Common.{◌≡◌, drop}
use Rattle.stanza_tree.specs.Attributes.{attr_of}
use Rattle.stanza_tree.proofs.node.Element.attr.Given as goal

abbrev pub invariant-loop-attr : goal.invariant-loop-attr
invariant-loop-attr l = attr_of l.local (drop l.attr-index l.attr-items) ≡ attr_of l.local l.self.attrs
