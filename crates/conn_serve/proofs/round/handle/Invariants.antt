use Rattle.std.proofs.Common.{◌≡◌}
use Rattle.turn_lock.specs.Histories.{StartsWith}
use Rattle.hall.specs.Desks.{turns_of}
use Rattle.conn_flow.specs.Duties.{Site}
use Rattle.flow_laws.specs.Standing.{Place, duty}
use Rattle.conn_serve.specs.Serving.{IsAt, IsStanding, Moved, tale}
use Rattle.conn_serve.proofs.round.handle.Given as goal

abbrev pub invariant-loop-step : goal.invariant-loop-step
invariant-loop-step g l = record {
  pass : g.D.Desk.came_from l.desk l.pass;
  line : g.D.Desk.line l.pass ≡ g.D.Desk.line l.fn.pass;
  history : StartsWith (g.D.Desk.seen l.pass) (g.D.Desk.seen l.fn.pass);
  mark : g.D.Desk.marked l.pass ≡ g.D.Desk.marked l.fn.pass;
  clock : g.C.Clock.told l.clock ≡ g.C.Clock.told l.fn.clock;
  counts : g.L.Link.laters l.link ≡ g.L.Link.laters l.fn.link;
  stands : IsStanding (g.D.Desk.line l.pass) l.accounts l.flow l.ears l.owed;
  moved : (o : Site) (p : Place) → o.line ≡ g.D.Desk.line l.fn.pass → o.accounts ≡ l.accounts → IsAt o p l.fn.flow l.fn.ears l.fn.owed
      → Moved l._step o (tale (g.L.Link.tape l.fn.link) (turns_of (g.D.Desk.line l.fn.pass) (g.D.Desk.seen l.fn.pass)) (g.C.Clock.told l.fn.clock)
      (g.I.Dice.drawn l.fn.dice)
      (g.L.Link.faults l.fn.link) (g.L.Link.ends l.fn.link) (g.I.Dice.faults l.fn.dice)) (duty o p)
      (tale (g.L.Link.tape l.link) (turns_of (g.D.Desk.line l.fn.pass) (g.D.Desk.seen l.pass)) (g.C.Clock.told l.clock) (g.I.Dice.drawn l.dice)
      (g.L.Link.faults l.link) (g.L.Link.ends l.link) (g.I.Dice.faults l.dice)) l.flow l.ears l.owed;
}
