use Rattle.std.proofs.Common.{◌≡◌, ◌+◌, ◌-◌, length}
use Rattle.script_play.specs.Streams.{framers_of}
use Rattle.script_play.proofs.streams.Streams.reach.Given as goal

abbrev pub invariant-loop-self : goal.invariant-loop-self
invariant-loop-self l = record { kept : framers_of l.self.places.items ≡ framers_of l.fn.self.places.items }

abbrev pub decreases-loop-self : goal.decreases-loop-self
decreases-loop-self l = l.fn.w + 1 - length l.self.places.items
