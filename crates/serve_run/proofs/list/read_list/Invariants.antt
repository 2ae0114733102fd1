use Rattle.std.proofs.Common.{◌≡◌, ◌≤◌, ◌+◌, ◌-◌, length}
use Rattle.outside.specs.Devices.{Front}
use Rattle.serve_run.proofs.list.read_list.Given as goal

abbrev pub invariant-loop-buffer : goal.invariant-loop-buffer
invariant-loop-buffer g l = record {
  read : Front (g.S.Source.left l.fn.source) (g.S.Source.left l.source) l.list.items;
  falls : g.S.Source.faults l.fn.source ≤ g.S.Source.faults l.source;
  room : length l.buffer ≡ 4096;
}

abbrev pub decreases-loop-buffer : goal.decreases-loop-buffer
decreases-loop-buffer g l = (l.most + 1) - length l.list.items
