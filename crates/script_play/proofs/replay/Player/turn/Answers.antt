use Rattle.std.proofs.Common.{rules}
use Rattle.house_core.specs.Houses.{held}
use Rattle.script_play.specs.Readings.{unread}
use Rattle.script_play.specs.Streams.{framers_of}
use Rattle.script_play.proofs.Plays.{going-on, stop-bad, stop-done, stop-short, stop-taking, stop-writing}
use Rattle.script_play.proofs.replay.Player.turn.Goals as goal

pub returns-in_err-take-clause-turns : goal.returns-in_err-take-clause-turns
returns-in_err-take-clause-turns g c = λ left took going.
    search (
      rules,
      stop-taking left (unread c.args.reader.now.held (g.S.Source.left c.args.source.now)) (g.S.Source.left c.take.new.source) took
          (g.K.Sink.took c.args.sink.now)
          c.args.reader.now.given (held c.args.self.now.house) (framers_of c.args.self.now.streams.places.items) c.args.number c.in_err-take.field-0.0 going
          (search rules),
    )

pub returns-then-not-branch-clause-turns : goal.returns-then-not-branch-clause-turns
returns-then-not-branch-clause-turns g c = λ left took going.
    stop-done left (unread c.args.reader.now.held (g.S.Source.left c.args.source.now)) c.take.new.reader.held (g.S.Source.left c.take.new.source) took
    (g.K.Sink.took c.args.sink.now)
    c.args.reader.now.given (held c.args.self.now.house) (framers_of c.args.self.now.streams.places.items) c.args.number going (search rules)

pub returns-in-Err-Bad-clause-turns : goal.returns-in-Err-Bad-clause-turns
returns-in-Err-Bad-clause-turns g c = λ left took going.
    stop-bad left (unread c.args.reader.now.held (g.S.Source.left c.args.source.now)) (unread c.take.new.reader.held (g.S.Source.left c.take.new.source))
    (g.S.Source.left c.take.new.source)
    took (g.K.Sink.took c.args.sink.now) c.args.reader.now.given c.take.new.reader.given (held c.args.self.now.house)
    (framers_of c.args.self.now.streams.places.items) c.args.number c.take.new.line.items going (search rules) (search rules)

pub returns-in_err-write_all-clause-turns : goal.returns-in_err-write_all-clause-turns
returns-in_err-write_all-clause-turns g c = λ left took going.
    search (
      rules,
      stop-writing left (unread c.args.reader.now.held (g.S.Source.left c.args.source.now)) (unread c.take.new.reader.held (g.S.Source.left c.take.new.source))
          (g.S.Source.left c.take.new.source) took (g.K.Sink.took c.args.sink.now) (g.K.Sink.took c.write_all.new.sink) c.args.reader.now.given
          c.take.new.reader.given (held c.args.self.now.house)
          (held c.play.new.self.house) (framers_of c.args.self.now.streams.places.items) (framers_of c.play.new.self.streams.places.items) c.args.number
          c.take.new.line.items c.play.new.self.print.items going (search rules) (search rules) (search rules),
    )

pub returns-clause-turns : goal.returns-clause-turns
returns-clause-turns g c = λ left took going.
    going-on left (unread c.args.reader.now.held (g.S.Source.left c.args.source.now)) (unread c.take.new.reader.held (g.S.Source.left c.take.new.source)) took
    (g.K.Sink.took c.args.sink.now)
    (g.K.Sink.took c.write_all.new.sink) c.args.reader.now.given c.take.new.reader.given (held c.args.self.now.house) (held c.play.new.self.house)
    (framers_of c.args.self.now.streams.places.items) (framers_of c.play.new.self.streams.places.items) c.args.number c.take.new.line.items
    c.play.new.self.print.items going (search rules) (search rules) (search rules)

pub returns-in-Err-NoMemory-clause-turns : goal.returns-in-Err-NoMemory-clause-turns
returns-in-Err-NoMemory-clause-turns g c = λ left took going.
    stop-short left (unread c.args.reader.now.held (g.S.Source.left c.args.source.now)) (g.S.Source.left c.take.new.source) took (g.K.Sink.took c.args.sink.now)
    c.args.reader.now.given
    (held c.args.self.now.house) (framers_of c.args.self.now.streams.places.items) c.args.number going
