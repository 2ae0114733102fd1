use Rattle.hall.specs.Halls.{CameFrom}
use Rattle.turn_trials.proofs.halls.send.Given as goal

abbrev pub invariant-loop-number : goal.invariant-loop-number
invariant-loop-number g l = CameFrom l.hall l.pass
