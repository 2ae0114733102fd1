use Rattle.std.proofs.Common.{◌&&◌, sym, subst, map, ℕ, List}
use Rattle.std.specs.Option.{option_copied}
use Rattle.rsm_paging.specs.Matches.{IsMatched, match_of}
use Rattle.rsm_paging.specs.Pages.{Rises, is_from, is_until, most_rows}
use Rattle.rsm_paging.specs.Places.{between, listed, rows_at}
use Rattle.rsm_paging.specs.declared.ask.Row.{Row}
use Rattle.rsm_paging.proofs.PageLemmas.{both-ok, page-is}
use Rattle.rsm_paging.proofs.RiseLemmas.{rises-filter}
use Rattle.rsm_paging.proofs.picking.page_among.Goals as goal

pub page_by-requires-clause-rises : goal.page_by-requires-clause-rises
page_by-requires-clause-rises c =
    let f = c.args.filter.now in
    subst (λ (l : List Row). Rises l) (sym c.asked_span-span.ensures.asked)
    (rises-filter (λ row. is_from f.start row.stamp && is_until f.end row.stamp) (listed c.args.rows.now (option_copied c.args.picked)) c.requires.rises)

pub returns-clause-page : goal.returns-clause-page
returns-clause-page c =
    let rows = c.args.rows.now in
    let f = c.args.filter.now in
    let ask = c.args.ask.now in
    let all : List Row = listed rows (option_copied c.args.picked) in
    both-ok c.page_by.result c.page_by.ensures.page c.page_by.ensures.known (λ page known is.
    page-is rows (between f all) (rises-filter (λ row. is_from f.start row.stamp && is_until f.end row.stamp) all c.requires.rises)
    ask.max ask.after ask.before page known
    (subst (λ (l : List Row). IsMatched rows (map match_of l) (most_rows ask.max) ask.after ask.before page) c.asked_span-span.ensures.asked
    (subst (λ (k : ℕ). IsMatched rows (map match_of (rows_at rows (option_copied c.args.picked) c.asked_span-span.result.from c.asked_span-span.result.many)) k ask.after ask.before page) c.min-max.ensures is)))
