use Rattle.std.proofs.Common.{drop}
use Rattle.stanza_tree.specs.Utf8.{AttrsAreUtf8}
use Rattle.stanza_tree.proofs.spell.know_utf8.Given as goal

abbrev pub invariant-loop-attr : goal.invariant-loop-attr
invariant-loop-attr l = AttrsAreUtf8 (drop l.attr-index l.attrs) → AttrsAreUtf8 l.attrs
