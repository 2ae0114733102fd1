use Rattle.std.proofs.Common.{◌≡◌, length}
use Rattle.outside_net.proofs.net_ports.make_bells.Given as goal

abbrev pub invariant-loop-worker : goal.invariant-loop-worker
invariant-loop-worker g l = record {
  made : length l.polls.items ≡ l._worker;
}
