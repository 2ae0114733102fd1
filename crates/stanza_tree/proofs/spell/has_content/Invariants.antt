use Rattle.std.proofs.Common.{◌≡◌, ℕ, List, drop}
use Rattle.stanza_tree.specs.Spelling.{texts_under}
use Rattle.stanza_tree.proofs.spell.has_content.Given as goal

abbrev pub invariant-loop-node : goal.invariant-loop-node
invariant-loop-node l = (parent : List ℕ) → texts_under parent (drop l.node-index l.nodes) ≡ texts_under parent l.nodes
