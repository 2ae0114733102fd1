use Rattle.std.proofs.Common.{◌≡◌, map, take}
use Rattle.replay_script.specs.DrillStanzas.{user}
use Rattle.replay_script.specs.Drills.{clients}
use Rattle.drill_run.proofs.opening.users.Given as goal

abbrev pub invariant-loop-i : goal.invariant-loop-i
invariant-loop-i l = l.users.items ≡ map user (take l.i clients)
