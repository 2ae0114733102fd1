use Rattle.std.proofs.Common.{◌≡◌}
use Rattle.conn_serve.proofs.enter.ring_stirred.Given as goal

abbrev pub invariant-loop : goal.invariant-loop
invariant-loop g l = record {
  tape : g.L.Link.tape l.link ≡ g.L.Link.tape l.fn.link;
  faults : g.L.Link.faults l.link ≡ g.L.Link.faults l.fn.link;
  ends : g.L.Link.ends l.link ≡ g.L.Link.ends l.fn.link;
  laters : g.L.Link.laters l.link ≡ g.L.Link.laters l.fn.link;
}
