use Rattle.std.proofs.Common.{ap, refl, subst, sym, ◌∙◌}
use Rattle.std.specs.Prelude.{Option}
use Rattle.conn_serve.proofs.Turning.{starts_both}
use Rattle.many_links.specs.declared.place.Line.{Line}
use Rattle.many_links.specs.Visits.{IsOpenAt, Open, is_taken, open_of}
use Rattle.many_links.proofs.Visiting.{goes_on, is_over, stands_after}
use Rattle.many_links.proofs.place.attend.Goals as goal

pub go_on-requires-clause-stands : goal.go_on-requires-clause-stands
go_on-requires-clause-stands g c =
    subst (λ (x : Option (Line g.row.L.Denot)). IsOpenAt (g.D.Desk.line c.args.place.now.pass) c.args.accounts.now
    (open_of g.row.L.Denot g.L.Link.tape g.L.Link.faults g.L.Link.ends x)) (sym c.in-Some.ensures.value) c.requires.open_at

pub returns-in-None-replace-clause-open_at : goal.returns-in-None-replace-clause-open_at
returns-in-None-replace-clause-open_at g c =
    let stands = subst (λ (x : Option (Line g.row.L.Denot)). IsOpenAt (g.D.Desk.line c.args.place.now.pass) c.args.accounts.now
    (open_of g.row.L.Denot g.L.Link.tape g.L.Link.faults g.L.Link.ends x)) (sym c.in-Some.ensures.value) c.requires.open_at in
    rw c.in-None-replace.ensures.after
    (stands_after _ _ _ _ _ _ _ _ _ _ _ stands c.go_on.ensures.line
    (c.in-None.ensures.went stands.site stands.place stands.line_is stands.accounts_are stands.at))

pub returns-in-None-replace-clause-attended : goal.returns-in-None-replace-clause-attended
returns-in-None-replace-clause-attended g c =
    let line = c.in-Some.line in
    let u : Open = record {
      tape = g.L.Link.tape line.link;
      faults = g.L.Link.faults line.link;
      ends = g.L.Link.ends line.link;
      flow = line.conn.flow;
      ahead = line.conn.ears;
      owed = line.conn.left;
    } in
    let u' : Open = record {
      tape = g.L.Link.tape c.go_on.new.link;
      faults = g.L.Link.faults c.go_on.new.link;
      ends = g.L.Link.ends c.go_on.new.link;
      flow = c.go_on.new.conn.flow;
      ahead = c.go_on.new.conn.ears;
      owed = c.go_on.new.conn.left;
    } in
    let was = ap (open_of g.row.L.Denot g.L.Link.tape g.L.Link.faults g.L.Link.ends) (sym c.in-Some.ensures.value) in
    rw c.in-None-replace.ensures.after (
      goes_on _ _ _ _ u u' c.in-None.ensures.line c.in-None.ensures.history c.in-None.ensures.mark was refl c.in-None.ensures.went,
      sym (ap is_taken was),
    )

pub returns-in-Some-go_on-clause-open_at : goal.returns-in-Some-go_on-clause-open_at
returns-in-Some-go_on-clause-open_at g c = rw c.in-Some.ensures.after tt

pub returns-in-Some-go_on-clause-attended : goal.returns-in-Some-go_on-clause-attended
returns-in-Some-go_on-clause-attended g c =
    let line = c.in-Some.line in
    let u : Open = record {
      tape = g.L.Link.tape line.link;
      faults = g.L.Link.faults line.link;
      ends = g.L.Link.ends line.link;
      flow = line.conn.flow;
      ahead = line.conn.ears;
      owed = line.conn.left;
    } in
    let was = ap (open_of g.row.L.Denot g.L.Link.tape g.L.Link.faults g.L.Link.ends) (sym c.in-Some.ensures.value) in
    let now = ap (open_of g.row.L.Denot g.L.Link.tape g.L.Link.faults g.L.Link.ends) c.in-Some.ensures.after in
    let gone = rw c.go_on.ensures.line at c.conclude-ended.ensures.gone in (
      is_over _ _ _ _ u c.in-Some-go_on.end c.conclude-ended.result (g.L.Link.tape c.go_on.new.link) (g.L.Link.tape c.conclude-ended.new.link) _ _
          (g.L.Link.faults c.go_on.new.link) (g.L.Link.ends c.go_on.new.link) (g.L.Link.faults c.conclude-ended.new.link) (g.L.Link.ends c.conclude-ended.new.link)
          (c.conclude-ended.ensures.line ∙ c.go_on.ensures.line) (starts_both _ _ _ c.go_on.ensures.history c.conclude-ended.ensures.history) was now
          c.in-Some-go_on.ensures.went (λ a v. gone _ _ a v _ _ _) c.in-Some-go_on.ensures.mark c.conclude-ended.ensures.mark,
      now,
      ap is_taken was,
    )

pub returns-in-None-replace-clause-round : goal.returns-in-None-replace-clause-round
returns-in-None-replace-clause-round g c = rw c.in-None-replace.ensures.after (λ taken. c.in-None.ensures.round)

pub returns-in-Some-go_on-clause-round : goal.returns-in-Some-go_on-clause-round
returns-in-Some-go_on-clause-round g c = rw c.in-Some.ensures.after (λ taken. c.in-Some-go_on.ensures.round)
