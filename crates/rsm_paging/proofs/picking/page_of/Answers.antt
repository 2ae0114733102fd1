use Rattle.std.proofs.Common.{◌∙◌, ap, sym, subst, length, List, IfOk}
use Rattle.std.specs.List.{filter}
use Rattle.std.proofs.lemmas.List.{length-map}
use Rattle.rsm_paging.specs.Pages.{IsPageBy, Rises, StampsRise, fits_peer, id_of}
use Rattle.rsm_paging.specs.Places.{between}
use Rattle.rsm_paging.specs.declared.ask.Row.{Row}
use Rattle.rsm_paging.proofs.ListedLemmas.{between-peer, follow-rises, listed-picked, stamps-filter}
use Rattle.rsm_paging.proofs.RiseLemmas.{rises-filter}
use Rattle.rsm_paging.proofs.picking.page_of.Goals as goal

pub page_among-requires-clause-there : goal.page_among-requires-clause-there
page_among-requires-clause-there c =
    let f = c.args.filter.now in
    let xs : List Row = filter (λ row. fits_peer f.peer row.peer) c.args.rows.now in
    ap length (listed-picked c.requires.ids.0 c.args.rows.now c.requires.ids.1 (λ row. fits_peer f.peer row.peer) c.args.picked.now c.requires.picked)
    ∙ sym (ap length c.requires.picked ∙ length-map xs id_of)

pub page_among-requires-clause-stamps : goal.page_among-requires-clause-stamps
page_among-requires-clause-stamps c =
    let f = c.args.filter.now in
    subst (λ (l : List Row). StampsRise 0 l)
    (sym (listed-picked c.requires.ids.0 c.args.rows.now c.requires.ids.1 (λ row. fits_peer f.peer row.peer) c.args.picked.now c.requires.picked))
    (stamps-filter (λ row. fits_peer f.peer row.peer) 0 c.args.rows.now c.requires.stamps)

pub page_among-requires-clause-rises : goal.page_among-requires-clause-rises
page_among-requires-clause-rises c =
    let f = c.args.filter.now in
    subst (λ (l : List Row). Rises l)
    (sym (listed-picked c.requires.ids.0 c.args.rows.now c.requires.ids.1 (λ row. fits_peer f.peer row.peer) c.args.picked.now c.requires.picked))
    (rises-filter (λ row. fits_peer f.peer row.peer) c.args.rows.now (follow-rises c.requires.ids.0 c.args.rows.now c.requires.ids.1))

pub returns-clause-page : goal.returns-clause-page
returns-clause-page c =
    let rows = c.args.rows.now in
    let f = c.args.filter.now in
    let ask = c.args.ask.now in
    let all = listed-picked c.requires.ids.0 rows c.requires.ids.1 (λ row. fits_peer f.peer row.peer) c.args.picked.now c.requires.picked in
    subst (λ (l : List Row). IfOk c.page_among.result (IsPageBy rows l ask.max ask.after ask.before)) (ap (between f) all ∙ between-peer f rows)
    c.page_among.ensures.page
