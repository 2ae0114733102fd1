use Rattle.std.proofs.Common.{◌≡◌}
use Rattle.turn_lock.specs.Histories.{StartsWith}
use Rattle.turn_lock.specs.Passes.{number_of, seen, refused, drawn, mine, IsWaiting}
use Rattle.turn_lock.proofs.lock.Turnstile.wait.Given as goal

abbrev pub invariant-loop : goal.invariant-loop
invariant-loop g l = record {
  can : (goal.iterator-loop g).can_next l.iterator';
  ends : (goal.iterator-loop g).is_finite l.iterator';
  waits : IsWaiting g.T.Storied.line g.T.Storied.root l.fn.self l.ticket l.pass;
  number : number_of l.pass ≡ number_of l.fn.pass;
  history : StartsWith (seen l.pass) (seen l.fn.pass);
  drawn : drawn l.pass ≡ drawn l.fn.pass;
  refused : refused l.pass ≡ refused l.fn.pass;
  mine : mine g.T.Storied.line l.pass ≡ mine g.T.Storied.line l.fn.pass;
}
