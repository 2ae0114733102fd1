use Rattle.std.proofs.Common.{rules, arith}
use Rattle.script_play.specs.Readings.{unread}
use Rattle.script_play.proofs.Feeds.{plain_more}
use Rattle.script_play.proofs.Takings.{Stands, stands_on, begins_more, taken_last, taken_feed, passes_script, passes_line}
use Rattle.script_play.proofs.lines.Reader.take_line.Given.{Over}
use Rattle.script_play.proofs.lines.Reader.take_line.Goals.{In_ok-take_run}
use Rattle.script_play.proofs.lines.Reader.take_line.Goals as goal

-- how the line stands once a run was moved
after-run : (g : Over) (c : In_ok-take_run g)
    → Stands (unread c.args.self.now.held (g.S.Source.left c.args.source.now)) (unread c.take_run.new.self.held (g.S.Source.left c.loop-self.source))
    c.args.self.now.given c.take_run.new.self.given c.take_run.new.line.items
after-run g c =
    stands_on (unread c.args.self.now.held (g.S.Source.left c.args.source.now)) (g.S.Source.left c.loop-self.source) c.loop-self.self c.take_run.new.self
    c.args.self.now.given c.loop-self.line.items c.take_run.new.line.items c.loop-self.invariant.plain c.loop-self.invariant.given
    c.loop-self.invariant.begins c.in_ok-take_run.ensures.moves

pub returns-in-End-clause-takes : goal.returns-in-End-clause-takes
returns-in-End-clause-takes g c = let on = after-run g (goal.at.returns-in-End-clause-takes g c).In_ok-take_run in
    taken_last (unread c.args.self.now.held (g.S.Source.left c.args.source.now)) (unread c.take_run.new.self.held (g.S.Source.left c.loop-self.source))
    (unread c.next.new.self.held (g.S.Source.left c.next.new.source)) c.args.self.now.given c.next.new.self.given c.take_run.new.line.items
    on.plain (search rules)
    (search rules) (omega (arith, on.given, c.next.ensures.given)) c.next.ensures.most on.begins (search rules)

pub returns-then-not-has_room-clause-takes : goal.returns-then-not-has_room-clause-takes
returns-then-not-has_room-clause-takes g c = let on = after-run g (goal.at.returns-then-not-has_room-clause-takes g c).In_ok-take_run in
    passes_script (unread c.args.self.now.held (g.S.Source.left c.args.source.now)) (unread c.take_run.new.self.held (g.S.Source.left c.loop-self.source))
    (unread c.next.new.self.held (g.S.Source.left c.next.new.source)) c.args.self.now.given c.take_run.new.line.items c.in-Byte.byte on.plain
    (search (rules, on.given))
    on.begins c.in-Byte.ensures.gives

pub returns-then-byte-eq10-clause-takes : goal.returns-then-byte-eq10-clause-takes
returns-then-byte-eq10-clause-takes g c = let on = after-run g (goal.at.returns-then-byte-eq10-clause-takes g c).In_ok-take_run in
    taken_feed (unread c.args.self.now.held (g.S.Source.left c.args.source.now)) (unread c.take_run.new.self.held (g.S.Source.left c.loop-self.source))
    (unread c.count.new.self.held (g.S.Source.left c.next.new.source)) c.args.self.now.given c.count.new.self.given c.take_run.new.line.items
    on.plain
    (search rules) (search (rules, on.given)) (search rules) on.begins (search rules)

pub loop-self-preserved : goal.loop-self-preserved
loop-self-preserved g c = let on = after-run g (goal.at.loop-self-preserved g c).In_ok-take_run in record {
  falls = search rules;
  given = search (rules, on.given);
  plain = search (rules, plain_more c.take_run.new.line.items c.in-Byte.byte on.plain);
  begins = search (
    rules,
    begins_more (unread c.args.self.now.held (g.S.Source.left c.args.source.now)) (unread c.take_run.new.self.held (g.S.Source.left c.loop-self.source))
        (unread c.next.new.self.held (g.S.Source.left c.next.new.source)) c.take_run.new.line.items c.in-Byte.byte on.begins
        c.in-Byte.ensures.gives,
  );
}

pub returns-clause-takes : goal.returns-clause-takes
returns-clause-takes g c =
    passes_line (unread c.args.self.now.held (g.S.Source.left c.args.source.now)) (unread c.loop-self.self.held (g.S.Source.left c.loop-self.source))
    c.args.self.now.given
    c.loop-self.line.items c.loop-self.invariant.plain (search rules) c.loop-self.invariant.begins
