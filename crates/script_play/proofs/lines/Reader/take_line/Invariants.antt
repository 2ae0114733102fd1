use Rattle.std.proofs.Common.{◌≡◌, ◌≤◌, ◌+◌, ◌-◌, length}
use Rattle.script_play.specs.Readings.{unread, Begins}
use Rattle.script_play.proofs.Feeds.{NoFeed}
use Rattle.script_play.proofs.lines.Reader.take_line.Given as goal

abbrev pub invariant-loop-self : goal.invariant-loop-self
invariant-loop-self g l = record {
  falls : g.S.Source.faults l.fn.source ≤ g.S.Source.faults l.source;
  given : l.self.given ≡ l.fn.self.given + length l.line.items;
  plain : NoFeed l.line.items;
  begins : Begins (unread l.fn.self.held (g.S.Source.left l.fn.source)) (unread l.self.held (g.S.Source.left l.source)) l.line.items;
}

abbrev pub decreases-loop-self : goal.decreases-loop-self
decreases-loop-self g l = 200001 - length l.line.items
