use Rattle.std.proofs.Common.{◌≡◌}
use Rattle.outside_net.proofs.tcp_poller.TcpPollerPoller.wait.Given as goal

abbrev pub invariant-loop : goal.invariant-loop
invariant-loop g l = record {
  can_next : (goal.iterator-loop g).can_next l.iterator';
  is_finite : (goal.iterator-loop g).is_finite l.iterator';
  same : l.self ≡ l.fn.self;
}
