use Rattle.std.proofs.Common.{ℕ, List, Option, ◌≤◌}
use Rattle.house_core.specs.Houses.{held}
use Rattle.script_play.specs.Readings.{unread}
use Rattle.script_play.specs.Streams.{framers_of}
use Rattle.script_play.specs.Runs.{Going}
use Rattle.script_play.proofs.replay.Player.play_on.Given as goal

abbrev pub invariant-loop-number : goal.invariant-loop-number
invariant-loop-number g l = record {
  source_falls : g.S.Source.faults l.fn.source ≤ g.S.Source.faults l.source;
  sink_falls : g.K.Sink.faults l.fn.sink ≤ g.K.Sink.faults l.sink;
  going : (left took : Option (List ℕ))
      → Going left (unread l.fn.reader.held (g.S.Source.left l.fn.source)) took (g.K.Sink.took l.fn.sink) l.fn.reader.given (held l.fn.self.house)
      (framers_of l.fn.self.streams.places.items) 2
      → Going left (unread l.reader.held (g.S.Source.left l.source)) took (g.K.Sink.took l.sink) l.reader.given (held l.self.house)
      (framers_of l.self.streams.places.items) l.number;
}
