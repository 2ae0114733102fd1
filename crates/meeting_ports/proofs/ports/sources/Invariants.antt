use Rattle.std.proofs.Common.{◌≡◌, length}
use Rattle.meeting_ports.proofs.ports.sources.Given as goal

abbrev pub invariant-loop-k : goal.invariant-loop-k
invariant-loop-k l = record {
  count : length l.sources.items ≡ l._k;
}
