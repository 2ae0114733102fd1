use Rattle.std.proofs.Common.{rules, arith}
use Rattle.house_core.specs.Houses.{held}
use Rattle.script_play.specs.Readings.{unread}
use Rattle.script_play.specs.Streams.{framers_of}
use Rattle.script_play.proofs.Plays.{turns-few}
use Rattle.script_play.proofs.replay.Player.play_on.Goals as goal

pub turn-requires : goal.turn-requires
turn-requires g c =
    let r = c.requires.going in
    record {
      turns = turns-few r.0 (unread c.loop-number.reader.held (g.S.Source.left c.loop-number.source)) r.1.0 (g.K.Sink.took c.loop-number.sink)
          c.loop-number.reader.given (held c.loop-number.self.house) (framers_of c.loop-number.self.streams.places.items) c.loop-number.number
          (c.loop-number.invariant.going r.0 r.1.0 r.1.1);
    }

pub returns-then-not-branch-clause-ends : goal.returns-then-not-branch-clause-ends
returns-then-not-branch-clause-ends g c = λ left took going.
    search (rules, c.in_ok-turn.ensures.turns left took (c.loop-number.invariant.going left took going))

pub unreachable-requires : goal.unreachable-requires
unreachable-requires g c =
    let r = c.requires.going in
    let along = (c.loop-number.invariant.going r.0 r.1.0 r.1.1).along in
    omega (arith, along.count, along.each, along.most, c.loop-number-test.false)
