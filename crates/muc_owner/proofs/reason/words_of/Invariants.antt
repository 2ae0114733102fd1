use Rattle.std.proofs.Common.{◌≡◌, ◌++◌, drop}
use Rattle.std.specs.List.{filter}
use Rattle.muc_owner.specs.Owning.{is_said}
use Rattle.muc_owner.proofs.reason.words_of.Given as goal

abbrev pub invariant-loop-node : goal.invariant-loop-node
invariant-loop-node l = l.words.items ++ filter is_said (drop l.node-index l.nodes) ≡ filter is_said l.nodes
