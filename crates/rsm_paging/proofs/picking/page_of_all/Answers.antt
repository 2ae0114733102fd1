use Rattle.std.proofs.Common.{◌∙◌, ap, sym, subst, length, List, IfOk}
use Rattle.rsm_paging.specs.Pages.{IsPageBy, Rises, StampsRise}
use Rattle.rsm_paging.specs.Places.{between}
use Rattle.rsm_paging.specs.declared.ask.Row.{Row}
use Rattle.rsm_paging.proofs.ListedLemmas.{between-all, follow-rises, listed-all}
use Rattle.rsm_paging.proofs.picking.page_of_all.Goals as goal

pub page_among-requires-clause-there : goal.page_among-requires-clause-there
page_among-requires-clause-there c = ap length (listed-all c.args.rows.now)

pub page_among-requires-clause-stamps : goal.page_among-requires-clause-stamps
page_among-requires-clause-stamps c = subst (λ (l : List Row). StampsRise 0 l) (sym (listed-all c.args.rows.now)) c.requires.stamps

pub page_among-requires-clause-rises : goal.page_among-requires-clause-rises
page_among-requires-clause-rises c =
    subst (λ (l : List Row). Rises l) (sym (listed-all c.args.rows.now)) (follow-rises c.requires.ids.0 c.args.rows.now c.requires.ids.1)

pub returns-clause-page : goal.returns-clause-page
returns-clause-page c =
    let rows = c.args.rows.now in
    let f = c.args.filter.now in
    let ask = c.args.ask.now in
    subst (λ (l : List Row). IfOk c.page_among.result (IsPageBy rows l ask.max ask.after ask.before))
    (ap (between f) (listed-all rows) ∙ between-all f rows c.requires.peer) c.page_among.ensures.page
