use Rattle.std.proofs.Common.{arith}
use Rattle.conn_staff.specs.Workers.{HasRoom}
use Rattle.conn_staff.proofs.Steps.{longer, one_more}
use Rattle.conn_staff.proofs.bench.benches_for.Goals as goal

pub loop-worker-preserved : goal.loop-worker-preserved
loop-worker-preserved g c =
    let inv = c.loop-worker.invariant in
    let more = c.push_reserved.ensures.items in
    let long = longer _ _ _ _ more in
    let kept = c.push_reserved.ensures.capacity in
    record {
      count = omega (arith, inv.count, long);
      room = omega (arith, inv.room, kept);
      made = one_more _ (HasRoom g.row.L.Denot g.row.C.Denot g.row.I.Denot c.args.places) _ _ _ more inv.made c.in_ok-bench_for.ensures;
    }
