use Rattle.std.proofs.Common.{◌≡◌, ◌≤◌, List}
use Rattle.turn_lock.specs.Histories.{StartsWith}
use Rattle.hall.specs.Desks.{turns_of}
use Rattle.conn_asks.specs.declared.ended.Ended.{Ended}
use Rattle.conn_serve.specs.Connections.{site_of}
use Rattle.conn_serve.specs.Shifts.{IsWithin, Serves, shift}
use Rattle.conn_serve.proofs.worker.work.Given as goal

abbrev pub invariant-loop : goal.invariant-loop
invariant-loop g l = record {
  can_next : (goal.iterator-loop g).can_next l.iterator';
  is_finite : (goal.iterator-loop g).is_finite l.iterator';
  pass : g.D.Desk.came_from l.desk l.pass;
  line : g.D.Desk.line l.pass ≡ g.D.Desk.line l.fn.pass;
  history : StartsWith (g.D.Desk.seen l.pass) (g.D.Desk.seen l.fn.pass);
  quota : g.G.Door.quota l.post.door ≡ g.G.Door.quota l.fn.post.door;
  within : IsWithin (g.G.Door.quota l.fn.post.door) (g.G.Door.links l.fn.post.door) → IsWithin (g.G.Door.quota l.post.door) (g.G.Door.links l.post.door);
  kept : g.G.Door.faults l.fn.post.door ≤ g.G.Door.faults l.post.door;
  serves : (ends : List Ended) × Serves (site_of (g.D.Desk.line l.fn.pass) (g.D.Desk.opening l.desk).head.domain.domain l.accounts)
      (shift (g.G.Door.tapes l.fn.post.door) (turns_of (g.D.Desk.line l.fn.pass) (g.D.Desk.seen l.fn.pass)) (g.C.Clock.told l.fn.post.clock)
      (g.I.Dice.drawn l.fn.post.dice) (g.G.Door.links l.fn.post.door) (g.I.Dice.faults l.fn.post.dice) (g.D.Desk.marked l.fn.pass)) ends
      (shift (g.G.Door.tapes l.post.door) (turns_of (g.D.Desk.line l.fn.pass) (g.D.Desk.seen l.pass)) (g.C.Clock.told l.post.clock)
      (g.I.Dice.drawn l.post.dice) (g.G.Door.links l.post.door) (g.I.Dice.faults l.post.dice) (g.D.Desk.marked l.pass));
}
