use Rattle.std.proofs.Common.{◌≡◌, ◌≤◌, All, length}
use Rattle.std.specs.Prelude.{vec_capacity}
use Rattle.conn_staff.specs.Workers.{HasRoom}
use Rattle.conn_staff.proofs.bench.benches_for.Given as goal

abbrev pub invariant-loop-worker : goal.invariant-loop-worker
invariant-loop-worker g l = record {
  count : length l.benches.items ≡ l._worker;
  room : l.workers ≤ vec_capacity l.benches;
  made : All (HasRoom g.row.L.Denot g.row.C.Denot g.row.I.Denot l.places) l.benches.items;
}
