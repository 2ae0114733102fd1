use Rattle.std.proofs.Common.{rules, arith}
use Rattle.std.proofs.lemmas.Result.{IfOk-weaker}
use Rattle.house_core.specs.Houses.{held}
use Rattle.replay_script.specs.DrillStands.{stand_of}
use Rattle.drill_run.specs.Courses.{Ended}
use Rattle.drill_run.proofs.Conclusions.{drilled}
use Rattle.drill_run.proofs.Goings.{have_room, lines_are, turns_are}
use Rattle.drill_run.proofs.course.Course.run.Goals as goal

pub turn-requires-clause-lines : goal.turn-requires-clause-lines
turn-requires-clause-lines c =
    let r = c.requires.going in
    lines_are c.args.n r.0 (held c.loop-number.self.house) (stand_of c.loop-number.self.drill) c.loop-number.self.last c.loop-number.self.frame.items
    c.loop-number.self.counts c.loop-number._number (c.loop-number.invariant r.0 r.1)

pub turn-requires-clause-turns : goal.turn-requires-clause-turns
turn-requires-clause-turns c =
    let r = c.requires.going in
    omega (
      arith,
      c.loop-number-test.true,
      turns_are c.args.n r.0 (held c.loop-number.self.house) (stand_of c.loop-number.self.drill) c.loop-number.self.last c.loop-number.self.frame.items
          c.loop-number.self.counts c.loop-number._number (c.loop-number.invariant r.0 r.1),
    )

pub turn-requires-clause-few : goal.turn-requires-clause-few
turn-requires-clause-few c =
    let r = c.requires.going in
    have_room c.args.n r.0 (held c.loop-number.self.house) (stand_of c.loop-number.self.drill) c.loop-number.self.last c.loop-number.self.frame.items
    c.loop-number.self.counts c.loop-number._number (c.loop-number.invariant r.0 r.1) c.loop-number-test.true

pub returns-then-not-branch : goal.returns-then-not-branch
returns-then-not-branch c = record {
  drilled = λ key going.
      let ended : Ended c.args.n key (held c.turn.new.self.house) c.turn.new.self.counts =
      search (rules, c.in_ok-turn.ensures c.args.n key c.loop-number._number (c.loop-number.invariant key going)) in
      IfOk-weaker c.line.result _ _ (λ line is. drilled c.args.n key (held c.turn.new.self.house) c.turn.new.self.counts line.items ended is) c.line.ensures;
}
