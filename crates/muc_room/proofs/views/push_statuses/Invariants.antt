use Rattle.std.proofs.Common.{◌≡◌, ◌++◌, drop, map}
use Rattle.muc_room.specs.Views.{status_node}
use Rattle.muc_room.proofs.views.push_statuses.Given as goal

abbrev pub invariant-loop-code : goal.invariant-loop-code
invariant-loop-code l =
    l.nodes.items ++ map status_node (drop l.code-index l.codes) ≡ l.fn.nodes.items ++ map status_node l.fn.codes
