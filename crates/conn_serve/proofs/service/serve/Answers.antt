use Rattle.std.proofs.Common.{refl, ◌∙◌}
use Rattle.conn_flow.specs.Duties.{Id, Site}
use Rattle.conn_flow.specs.Following.{opening}
use Rattle.std.specs.Prelude.{[], ◌∷◌}
use Rattle.conn_serve.specs.Connections.{site_of}
use Rattle.conn_serve.proofs.Leaving.{follows, gone_after, is_caused, is_safe, never_caused, never_opened, opened}
use Rattle.conn_serve.proofs.Marking.{marks, unopened_marks, went}
use Rattle.conn_serve.proofs.service.serve.Goals as goal

pub returns-in-Ok-clause-went : goal.returns-in-Ok-clause-went
returns-in-Ok-clause-went g c =
    let o : Site = site_of (g.D.Desk.line c.args.pass.now) (g.D.Desk.opening c.args.desk.now).head.domain.domain c.args.accounts.now in
    let began = rw c.open_line.ensures.line at c.begin-end.ensures.ended in
    let left = rw (c.begin-end.ensures.line, c.open_line.ensures.line) at c.conclude.ensures.gone in
    went o _ _ c.conclude.result (follows o c.moment-opened.result _ _ _ c.conclude.result c.moment-opened.ensures.told
    (gone_after o _ _ _ _ _ _
    (opened (g.D.Desk.line c.args.pass.now) (g.D.Desk.opening c.args.desk.now).head.domain.domain c.args.accounts.now c.moment-opened.result c.in-Ok.field-0
    _ _ _ _ (g.I.Dice.drawn c.args.dice.now) _ _ (g.I.Dice.faults c.args.dice.now) c.in-Ok.ensures.served.3)
    (left _ _ _ (record (opening o c.moment-opened.result) { due = Id ∷ [] }) _ _ _
    (began o (record (opening o c.moment-opened.result) { due = Id ∷ [] }) refl refl))))

pub returns-in-Ok-clause-cause : goal.returns-in-Ok-clause-cause
returns-in-Ok-clause-cause g c =
    let o : Site = site_of (g.D.Desk.line c.args.pass.now) (g.D.Desk.opening c.args.desk.now).head.domain.domain c.args.accounts.now in
    let began = rw c.open_line.ensures.line at c.begin-end.ensures.ended in
    let left = rw (c.begin-end.ensures.line, c.open_line.ensures.line) at c.conclude.ensures.gone in
    is_caused o c.moment-opened.result _ _ c.conclude.result
    (gone_after o _ _ _ _ _ _
    (opened (g.D.Desk.line c.args.pass.now) (g.D.Desk.opening c.args.desk.now).head.domain.domain c.args.accounts.now c.moment-opened.result c.in-Ok.field-0
    _ _ _ _ (g.I.Dice.drawn c.args.dice.now) _ _ (g.I.Dice.faults c.args.dice.now) c.in-Ok.ensures.served.3)
    (left _ _ _ (record (opening o c.moment-opened.result) { due = Id ∷ [] }) _ _ _
    (began o (record (opening o c.moment-opened.result) { due = Id ∷ [] }) refl refl)))

pub returns-in-Ok-clause-safe : goal.returns-in-Ok-clause-safe
returns-in-Ok-clause-safe g c =
    is_safe _ _ (g.met.D.Desk.opens c.args.desk.now) (g.met.D.Desk.legal c.args.desk.now c.conclude.new.pass c.conclude.ensures.pass)

pub returns-in-Err-clause-went : goal.returns-in-Err-clause-went
returns-in-Err-clause-went g c =
    let o : Site = site_of (g.D.Desk.line c.args.pass.now) (g.D.Desk.opening c.args.desk.now).head.domain.domain c.args.accounts.now in
    went o _ _ _ (follows o c.moment-opened.result _ _ _ _ c.moment-opened.ensures.told
    (never_opened o c.moment-opened.result c.in-Err.field-0 (g.D.Desk.line c.args.pass.now) _ _ _ _ _
    (g.L.Link.faults c.args.link.now) (g.L.Link.ends c.args.link.now) (g.I.Dice.faults c.args.dice.now) c.in-Err.ensures.served))

pub returns-in-Err-clause-safe : goal.returns-in-Err-clause-safe
returns-in-Err-clause-safe g c =
    is_safe _ _ (g.met.D.Desk.opens c.args.desk.now) (g.met.D.Desk.legal c.args.desk.now c.open_line.new.pass c.in-Err.ensures.pass)

pub returns-in-Ok-clause-mark : goal.returns-in-Ok-clause-mark
returns-in-Ok-clause-mark g c =
    let o : Site = site_of (g.D.Desk.line c.args.pass.now) (g.D.Desk.opening c.args.desk.now).head.domain.domain c.args.accounts.now in
    let began = rw c.open_line.ensures.line at c.begin-end.ensures.ended in
    marks o c.moment-opened.result _ _ _ _ _ _ _ (began o (record (opening o c.moment-opened.result) { due = Id ∷ [] }) refl refl)
    (rw c.in-Ok.ensures.mark at c.begin-end.ensures.mark) c.conclude.ensures.mark

pub returns-in-Err-clause-mark : goal.returns-in-Err-clause-mark
returns-in-Err-clause-mark g c =
    c.in-Err.ensures.mark ∙ unopened_marks c.in-Err.field-0 _ _ _ _ c.in-Err.ensures.served

pub returns-in-Err-clause-cause : goal.returns-in-Err-clause-cause
returns-in-Err-clause-cause g c = never_caused _
