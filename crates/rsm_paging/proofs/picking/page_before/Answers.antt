use Rattle.std.proofs.Common.{◌∙◌, ap, subst, map, ℕ, List, Option}
use Rattle.std.specs.Option.{option_copied}
use Rattle.rsm_paging.specs.Matches.{IsLast, IsLastBefore, match_of}
use Rattle.rsm_paging.specs.Pages.{row_named}
use Rattle.rsm_paging.specs.Places.{rows_at}
use Rattle.rsm_paging.specs.declared.ask.Row.{Row}
use Rattle.rsm_paging.proofs.FrontLemmas.{below-count}
use Rattle.rsm_paging.proofs.picking.page_before.Goals as goal

pub returns-clause-page : goal.returns-clause-page
returns-clause-page c =
    let xs : List Row = rows_at c.args.rows.now (option_copied c.args.picked) c.args.span.from c.args.span.many in
    let page = c.in_ok-page_to.field-0 in
    subst (λ (o : Option Row). IsLastBefore o (map match_of xs) c.args.max page) (c.in-Some.ensures ∙ ap (λ (l : List ℕ). row_named l c.args.rows.now) c.bytes.ensures.bytes)
    (subst (λ (k : ℕ). IsLast (map match_of xs) k c.args.max page) (c.count_before-to.ensures.count ∙ below-count c.in-Some.row.now.id xs)
    c.in_ok-page_to.ensures)
