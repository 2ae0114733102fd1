use Rattle.std.proofs.Common.{refl, sym, subst, ap, ◌∙◌, ℕ, List}
use Rattle.std.specs.Prelude.{[], ◌∷◌}
use Rattle.house_model.specs.Histories.{Turn}
use Rattle.conn_flow.specs.Duties.{Id, Site}
use Rattle.conn_flow.specs.Following.{opening}
use Rattle.conn_serve.specs.Connections.{site_of}
use Rattle.conn_serve.specs.Serving.{Exhausted, tale}
use Rattle.conn_serve.proofs.Entering.{spent}
use Rattle.conn_serve.proofs.Leaving.{open_turn, opened}
use Rattle.conn_serve.proofs.Marking.{unopened_marks}
use Rattle.many_links.proofs.Starting.{named_after}
use Rattle.many_links.proofs.begin.start.Goals as goal

pub returns-in-Ok-clause-began : goal.returns-in-Ok-clause-began
returns-in-Ok-clause-began g c = λ accounts tape faults ends.
    let domain = (g.D.Desk.opening c.args.desk.now).head.domain.domain in
    let o : Site = site_of (g.D.Desk.line c.args.pass.now) domain accounts in (
      c.moment-opened.result,
      c.moment-opened.ensures.told,
      named_after o _ _ _ (opening o c.moment-opened.result) (record (opening o c.moment-opened.result) { due = Id ∷ [] }) c.name.result
          (opened (g.D.Desk.line c.args.pass.now) domain accounts c.moment-opened.result c.in-Ok.field-0
          _ _ _ _ (g.I.Dice.drawn c.args.dice.now) faults ends (g.I.Dice.faults c.args.dice.now) c.in-Ok.ensures.served.3)
          (c.name.ensures.named o accounts (record (opening o c.moment-opened.result) { due = Id ∷ [] }) _ _ _ faults ends
          (ap (λ (w : ℕ). site_of w domain accounts) (sym c.in-Ok.ensures.line)) refl),
    )

pub returns-in-Ok-clause-mark : goal.returns-in-Ok-clause-mark
returns-in-Ok-clause-mark g c = c.in-Ok.ensures.mark ∙ sym (c.name.ensures.mark _)

pub returns-in-Err-clause-began : goal.returns-in-Err-clause-began
returns-in-Err-clause-began g c = λ accounts tape faults ends.
    let o : Site = site_of (g.D.Desk.line c.args.pass.now) (g.D.Desk.opening c.args.desk.now).head.domain.domain accounts in
    let a = tale tape _ (g.C.Clock.told c.moment-opened.new.self) (g.I.Dice.drawn c.args.dice.now) faults ends (g.I.Dice.faults c.args.dice.now) in (
      c.moment-opened.result,
      c.moment-opened.ensures.told,
      subst (λ (y : List Turn). Exhausted o a (opening o c.moment-opened.result)
          (tale tape y (g.C.Clock.told c.moment-opened.new.self) (g.I.Dice.drawn c.args.dice.now) faults ends (g.I.Dice.faults c.args.dice.now)))
          (sym (open_turn _ c.in-Err.field-0 _ _ c.in-Err.ensures.served)) (spent o a (opening o c.moment-opened.result) refl),
    )

pub returns-in-Err-clause-mark : goal.returns-in-Err-clause-mark
returns-in-Err-clause-mark g c = c.in-Err.ensures.mark ∙ unopened_marks c.in-Err.field-0 _ _ _ _ c.in-Err.ensures.served
