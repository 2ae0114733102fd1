use Rattle.std.proofs.Common.{ap, refl, ◌∙◌}
use Rattle.conn_serve.proofs.Turning.{starts_both}
use Rattle.many_links.specs.Visits.{Open, open_of}
use Rattle.many_links.proofs.Visiting.{begins, ends_at_once, stands_begun}
use Rattle.many_links.proofs.place.take_up.Goals as goal

pub returns-in-None-clause-open_at : goal.returns-in-None-clause-open_at
returns-in-None-clause-open_at g c =
    let began = c.in-Ok.ensures.began c.args.accounts.now (g.L.Link.tape c.args.link) (g.L.Link.faults c.args.link) (g.L.Link.ends c.args.link) in
    rw c.in-None.ensures.after (stands_begun _ _ _ _ _ _ _ _ _ _ c.in-Ok.ensures.line began.2)

pub returns-in-None-clause-taken_up : goal.returns-in-None-clause-taken_up
returns-in-None-clause-taken_up g c =
    let u : Open = record {
      tape = g.L.Link.tape c.args.link;
      faults = g.L.Link.faults c.args.link;
      ends = g.L.Link.ends c.args.link;
      flow = c.in-Ok.conn.flow;
      ahead = c.in-Ok.conn.ears;
      owed = c.in-Ok.conn.left;
    } in
    let free = ap (open_of g.row.L.Denot g.L.Link.tape g.L.Link.faults g.L.Link.ends) c.requires.free in
    rw c.in-None.ensures.after (
      begins _ _ _ _ u c.in-Ok.ensures.line c.in-Ok.ensures.history c.in-Ok.ensures.mark free refl c.requires.unmarked
          (c.in-Ok.ensures.began c.args.accounts.now u.tape u.faults u.ends),
      refl,
    )

pub returns-in-Err-clause-open_at : goal.returns-in-Err-clause-open_at
returns-in-Err-clause-open_at g c = rw c.requires.free tt

pub returns-in-Err-clause-taken_up : goal.returns-in-Err-clause-taken_up
returns-in-Err-clause-taken_up g c =
    let free = ap (open_of g.row.L.Denot g.L.Link.tape g.L.Link.faults g.L.Link.ends) c.requires.free in
    let gone = rw c.in-Err.ensures.line at c.conclude-ended.ensures.gone in (
      ends_at_once _ _ _ _ c.in-Err.end c.conclude-ended.result (g.L.Link.tape c.args.link) (g.L.Link.tape c.conclude-ended.new.link) _ _
          (g.L.Link.faults c.args.link) (g.L.Link.ends c.args.link) (g.L.Link.faults c.conclude-ended.new.link) (g.L.Link.ends c.conclude-ended.new.link)
          (c.conclude-ended.ensures.line ∙ c.in-Err.ensures.line)
          (starts_both _ _ _ c.in-Err.ensures.history c.conclude-ended.ensures.history) free free c.requires.unmarked
          (c.in-Err.ensures.began c.args.accounts.now (g.L.Link.tape c.args.link) (g.L.Link.faults c.args.link) (g.L.Link.ends c.args.link))
          (λ a v. gone _ _ a v _ _ _) c.in-Err.ensures.mark c.conclude-ended.ensures.mark,
      free,
    )

pub returns-in-None-clause-asked : goal.returns-in-None-clause-asked
returns-in-None-clause-asked g c =
    let began = c.in-Ok.ensures.began c.args.accounts.now (g.L.Link.tape c.args.link) (g.L.Link.faults c.args.link) (g.L.Link.ends c.args.link) in
    (began.0, began.1)

pub returns-in-Err-clause-asked : goal.returns-in-Err-clause-asked
returns-in-Err-clause-asked g c =
    let began = c.in-Err.ensures.began c.args.accounts.now (g.L.Link.tape c.args.link) (g.L.Link.faults c.args.link) (g.L.Link.ends c.args.link) in
    (began.0, began.1)
