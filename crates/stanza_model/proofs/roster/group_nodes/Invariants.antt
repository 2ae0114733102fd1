use Rattle.std.proofs.Common.{◌≡◌, ◌++◌, drop, map}
use Rattle.stanza_model.specs.Rosters.{group_node}
use Rattle.stanza_model.proofs.roster.group_nodes.Given as goal

abbrev pub invariant-loop-group : goal.invariant-loop-group
invariant-loop-group l = l.nodes.items ++ map group_node (drop l.group-index l.groups) ≡ map group_node l.groups
