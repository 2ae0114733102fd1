use Rattle.outside.specs.Doors.{Unmarked}
use Rattle.link_trials.proofs.full.links.Given as goal

abbrev pub invariant-loop-client : goal.invariant-loop-client
invariant-loop-client l = record {
  unmarked : Unmarked l.links.items;
}
