use Rattle.std.proofs.Common.{◌≡◌, ◌++◌, drop}
use Rattle.std.specs.List.{filter}
use Rattle.stanza_model.specs.Ids.{may_stay}
use Rattle.stanza_model.proofs.ids.kept_nodes.Given as goal

abbrev pub invariant-loop-node : goal.invariant-loop-node
invariant-loop-node l = l.kept.items ++ filter (may_stay l.owner) (drop l.node-index l.nodes) ≡ filter (may_stay l.owner) l.nodes
