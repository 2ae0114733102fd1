use Rattle.std.proofs.Common.{ℕ, List, subst}
use Rattle.rsm_paging.specs.Matches.{IsMatched}
use Rattle.rsm_paging.specs.Pages.{fits, matching, most_rows}
use Rattle.rsm_paging.specs.declared.matching.Match.{Match}
use Rattle.rsm_paging.proofs.PageLemmas.{both-ok, page-is}
use Rattle.rsm_paging.proofs.RiseLemmas.{rises-filter}
use Rattle.rsm_paging.proofs.paging.page.Goals as goal

pub returns-clause-page : goal.returns-clause-page
returns-clause-page c =
    let rows = c.args.rows.now in
    let f = c.args.filter.now in
    let ask = c.args.ask.now in
    both-ok c.page_by.result c.page_by.ensures.page c.page_by.ensures.known (λ page known is.
    page-is rows (matching f rows) (rises-filter (fits f) rows c.requires.rises) ask.max ask.after ask.before page known
    (subst (λ (ms : List Match). IsMatched rows ms (most_rows ask.max) ask.after ask.before page) c.in_ok-asked.ensures
    (subst (λ (k : ℕ). IsMatched rows c.in_ok-asked.asked.items k ask.after ask.before page) c.min-max.ensures is)))
