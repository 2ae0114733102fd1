use Rattle.std.proofs.Common.{◌≡◌, length}
use Rattle.outside_net.proofs.net_ports.make_sources.Given as goal

abbrev pub invariant-loop-place : goal.invariant-loop-place
invariant-loop-place g l = record {
  made : length l.sources.items ≡ l._place;
}
