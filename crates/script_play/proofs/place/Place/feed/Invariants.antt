use Rattle.std.proofs.Common.{◌≤◌, ◌-◌, length}
use Rattle.script_play.specs.Feeding.{FedOn}
use Rattle.script_play.proofs.place.Place.feed.Given as goal

abbrev pub invariant-loop-at : goal.invariant-loop-at
invariant-loop-at l = record {
  within : l.at ≤ length l.bytes;
  fed : FedOn l.fn.self.framer.reading l.bytes l.fn.print.items l.at l.self.framer.reading l.print.items;
}

abbrev pub decreases-loop-at : goal.decreases-loop-at
decreases-loop-at l = length l.bytes - l.at
