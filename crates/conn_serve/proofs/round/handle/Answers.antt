use Rattle.std.proofs.Common.{arith, refl, sym, subst, ◌∙◌, ℕ}
use Rattle.hall.specs.Desks.{turns_of}
use Rattle.flow_laws.specs.Standing.{duty}
use Rattle.conn_serve.specs.Serving.{IsStanding}
use Rattle.conn_serve.proofs.Passing.{counts_after, flushed_more, flushed_round, moved_both, moved_none, owes_at, passed_on, stands_on, unread_after}
use Rattle.conn_serve.proofs.Turning.{starts_both, starts_same}
use Rattle.conn_serve.proofs.round.handle.Goals as goal

pub loop-step-init : goal.loop-step-init
loop-step-init g c = record {
  pass = c.requires.pass;
  line = refl;
  history = starts_same _;
  mark = refl;
  clock = refl;
  counts = refl;
  stands = c.requires.stands;
  moved = λ o p line accounts at. moved_none o _ p _ _ _ at;
}

pub loop-step-preserved : goal.loop-step-preserved
loop-step-preserved g c =
    let stands = c.loop-step.invariant.stands in
    let stepped = rw c.loop-step.invariant.line at c.in-None.ensures.stepped in
    record {
      pass = c.in-None.ensures.pass;
      line = c.in-None.ensures.line ∙ c.loop-step.invariant.line;
      history = starts_both _ _ _ c.loop-step.invariant.history c.in-None.ensures.history;
      mark = c.in-None.ensures.mark ∙ c.loop-step.invariant.mark;
      clock = c.in-None.ensures.unread ∙ c.loop-step.invariant.clock;
      counts = c.in-None.ensures.counts ∙ c.loop-step.invariant.counts;
      stands = subst (λ (w : ℕ). IsStanding w c.args.accounts.now c.step.new.flow c.step.new.ears c.step.new.owed) (sym c.in-None.ensures.line)
          (stands_on _ _ _ _ _ _ _ _ _ _ stands (c.in-None.ensures.stepped stands.site stands.place stands.line_is stands.accounts_are stands.at).came);
      moved = λ o p line accounts at.
          moved_both o _ _ _ _ _ _ _ _ _ _ _ (c.loop-step.invariant.moved o p line accounts at) (λ q here. stepped o q line accounts here);
    }

pub returns-in-Some-clause-passed : goal.returns-in-Some-clause-passed
returns-in-Some-clause-passed g c = λ o p line accounts at.
    let stepped = rw c.loop-step.invariant.line at c.in-Some.ensures.stepped in
    passed_on o _ _ _ _ _ _ _ _ _ _ c.in-Some.round (c.loop-step.invariant.moved o p line accounts at).came (λ q here. stepped o q line accounts here)

pub returns-in-Some-clause-unread : goal.returns-in-Some-clause-unread
returns-in-Some-clause-unread g c = unread_after _ _ _ c.in-Some.round c.loop-step.invariant.clock c.in-Some.ensures.unread

pub returns-in-Some-clause-counts : goal.returns-in-Some-clause-counts
returns-in-Some-clause-counts g c = counts_after _ _ _ c.in-Some.round c.loop-step.invariant.counts c.in-Some.ensures.counts

pub returns-in-None-flush-clause-passed : goal.returns-in-None-flush-clause-passed
returns-in-None-flush-clause-passed g c = λ o p line accounts at.
    let moved = c.loop-step.invariant.moved o p line accounts at in
    flushed_more o _ _ _ _ _ _ _ _ _ moved (omega (arith, c.loop-step-test.false)) (c.in-None-flush.ensures.flushed o (duty o moved.came.to)
    (turns_of (g.D.Desk.line c.args.pass.now) (g.D.Desk.seen c.loop-step.pass)) (g.I.Dice.drawn c.loop-step.dice)
    (g.I.Dice.faults c.loop-step.dice) (owes_at o moved.came.to _ _ _ moved.came.at))

pub returns-in-Some-flush-clause-passed : goal.returns-in-Some-flush-clause-passed
returns-in-Some-flush-clause-passed g c = λ o p line accounts at.
    let moved = c.loop-step.invariant.moved o p line accounts at in
    flushed_round o _ _ _ _ _ _ _ _ c.in-Some-flush.round moved.came
    (c.in-Some-flush.ensures.flushed o (duty o moved.came.to) (turns_of (g.D.Desk.line c.args.pass.now) (g.D.Desk.seen c.loop-step.pass))
    (g.I.Dice.drawn c.loop-step.dice)
    (g.I.Dice.faults c.loop-step.dice) (owes_at o moved.came.to _ _ _ moved.came.at))

pub returns-in-None-flush-clause-unread : goal.returns-in-None-flush-clause-unread
returns-in-None-flush-clause-unread g c = c.in-None-flush.ensures.unread ∙ c.loop-step.invariant.clock

pub returns-in-Some-flush-clause-unread : goal.returns-in-Some-flush-clause-unread
returns-in-Some-flush-clause-unread g c = unread_after _ _ _ c.in-Some-flush.round c.loop-step.invariant.clock c.in-Some-flush.ensures.unread

pub returns-in-None-flush-clause-counts : goal.returns-in-None-flush-clause-counts
returns-in-None-flush-clause-counts g c = c.in-None-flush.ensures.counts ∙ c.loop-step.invariant.counts

pub returns-in-Some-flush-clause-counts : goal.returns-in-Some-flush-clause-counts
returns-in-Some-flush-clause-counts g c = counts_after _ _ _ c.in-Some-flush.round c.loop-step.invariant.counts c.in-Some-flush.ensures.counts
