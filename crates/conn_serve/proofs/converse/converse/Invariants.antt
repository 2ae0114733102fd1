use Rattle.std.proofs.Common.{◌≡◌, []}
use Rattle.turn_lock.specs.Histories.{StartsWith}
use Rattle.hall.specs.Desks.{turns_of}
use Rattle.conn_flow.specs.Duties.{Site}
use Rattle.flow_laws.specs.Standing.{Place, duty}
use Rattle.conn_serve.specs.Serving.{Came, IsAt, IsStanding, tale}
use Rattle.conn_serve.proofs.converse.converse.Given as goal

abbrev pub invariant-loop : goal.invariant-loop
invariant-loop g l = record {
  can_next : (goal.iterator-loop g).can_next l.iterator';
  is_finite : (goal.iterator-loop g).is_finite l.iterator';
  pass : g.D.Desk.came_from l.desk l.pass;
  line : g.D.Desk.line l.pass ≡ g.D.Desk.line l.fn.pass;
  history : StartsWith (g.D.Desk.seen l.pass) (g.D.Desk.seen l.fn.pass);
  mark : g.D.Desk.marked l.pass ≡ g.D.Desk.marked l.fn.pass;
  said : l.said ≡ [];
  stands : IsStanding (g.D.Desk.line l.pass) l.accounts l.conn.flow l.conn.ears l.conn.left;
  came : (o : Site) (p : Place) → o.line ≡ g.D.Desk.line l.fn.pass → o.accounts ≡ l.accounts → IsAt o p l.fn.conn.flow l.fn.conn.ears l.fn.conn.left
      → Came o (tale (g.L.Link.tape l.fn.link) (turns_of (g.D.Desk.line l.fn.pass) (g.D.Desk.seen l.fn.pass)) (g.C.Clock.told l.fn.clock)
      (g.I.Dice.drawn l.fn.dice)
      (g.L.Link.faults l.fn.link) (g.L.Link.ends l.fn.link) (g.I.Dice.faults l.fn.dice)) (duty o p)
      (tale (g.L.Link.tape l.link) (turns_of (g.D.Desk.line l.fn.pass) (g.D.Desk.seen l.pass)) (g.C.Clock.told l.clock) (g.I.Dice.drawn l.dice)
      (g.L.Link.faults l.link) (g.L.Link.ends l.link) (g.I.Dice.faults l.dice)) l.conn.flow l.conn.ears l.conn.left;
}
