use Rattle.std.proofs.Common.{[], ◌∷◌, ◌++◌, ◌∙◌, arith}
use Rattle.conn_serve.proofs.Cutting.{attends_same, serves_more}
use Rattle.conn_serve.proofs.Leaving.{is_safe}
use Rattle.conn_serve.proofs.Turning.{starts_both}
use Rattle.conn_serve.proofs.worker.work.Goals as goal

pub loop-preserved : goal.loop-preserved
loop-preserved g c =
    let attended = rw c.loop.invariant.line at c.in-None-attend.ensures.attended in
    record {
      can_next = tt;
      is_finite = tt;
      pass = c.in-None-attend.ensures.pass;
      line = c.in-None-attend.ensures.line ∙ c.loop.invariant.line;
      history = starts_both _ _ _ c.loop.invariant.history c.in-None-attend.ensures.history;
      quota = c.in-None-attend.ensures.quota ∙ c.loop.invariant.quota;
      within = λ w. c.in-None-attend.ensures.within (c.loop.invariant.within w);
      kept = grind (arith, c.loop.invariant.kept, c.in-None-attend.ensures.kept);
      serves = (
        c.loop.invariant.serves.0 ++ attended.0 ∷ [],
        serves_more _ _ c.loop.invariant.serves.0 _ attended.0 _ c.loop.invariant.serves.1 attended.1,
      );
    }

pub returns-in-Some-attend-clause-serves : goal.returns-in-Some-attend-clause-serves
returns-in-Some-attend-clause-serves g c =
    let attended = rw c.loop.invariant.line at c.in-Some-attend.ensures.attended in
    attends_same _ _ c.loop.invariant.serves.0 _ _ c.loop.invariant.serves.1 attended

pub returns-in-Some-attend-clause-within : goal.returns-in-Some-attend-clause-within
returns-in-Some-attend-clause-within g c = λ w. c.in-Some-attend.ensures.within (c.loop.invariant.within w)

pub returns-in-Some-attend-clause-safe : goal.returns-in-Some-attend-clause-safe
returns-in-Some-attend-clause-safe g c =
    is_safe _ _ (g.met.D.Desk.opens c.args.desk.now) (g.met.D.Desk.legal c.args.desk.now c.attend.new.pass c.in-Some-attend.ensures.pass)
