use Rattle.std.proofs.Common.{ap, sym}
use Rattle.many_links.specs.Visits.{Open, is_taken, open_of}
use Rattle.many_links.proofs.Visiting.{is_over}
use Rattle.many_links.proofs.place.let_go.Goals as goal

pub returns-clause-free : goal.returns-clause-free
returns-clause-free g c = ap (open_of g.row.L.Denot g.L.Link.tape g.L.Link.faults g.L.Link.ends) c.in-Some.ensures.after

pub returns-clause-attended : goal.returns-clause-attended
returns-clause-attended g c =
    let line = c.in-Some.line in
    let u : Open = record {
      tape = g.L.Link.tape line.link;
      faults = g.L.Link.faults line.link;
      ends = g.L.Link.ends line.link;
      flow = line.conn.flow;
      ahead = line.conn.ears;
      owed = line.conn.left;
    } in
    let was = ap (open_of g.row.L.Denot g.L.Link.tape g.L.Link.faults g.L.Link.ends) (sym c.in-Some.ensures.value) in
    let now = ap (open_of g.row.L.Denot g.L.Link.tape g.L.Link.faults g.L.Link.ends) c.in-Some.ensures.after in (
      is_over _ _ _ _ u c.give_notice-end.result c.conclude-ended.result u.tape (g.L.Link.tape c.conclude-ended.new.link)
          (g.D.Desk.seen c.args.place.now.pass) (g.D.Desk.marked c.args.place.now.pass) u.faults u.ends
          (g.L.Link.faults c.conclude-ended.new.link) (g.L.Link.ends c.conclude-ended.new.link)
          c.conclude-ended.ensures.line c.conclude-ended.ensures.history was now
          (λ o p line accounts at. c.give_notice-end.ensures.ended o p _ accounts at) (λ a v. c.conclude-ended.ensures.gone _ _ a v _ _ _)
          (sym (c.give_notice-end.ensures.mark _)) c.conclude-ended.ensures.mark,
      now,
      ap is_taken was,
    )
