use Rattle.std.proofs.Common.{◌∙◌, ◌-◌, arith}
use Rattle.std.specs.Option.{option_copied}
use Rattle.rsm_paging.proofs.FrontLemmas.{last-at}
use Rattle.rsm_paging.proofs.PageLemmas.{ok-then}
use Rattle.rsm_paging.proofs.SpanLemmas.{span-within}
use Rattle.rsm_paging.proofs.spans.page_to.Goals as goal

pub matches_back-requires : goal.matches_back-requires
matches_back-requires c =
    let few = c.min-many.ensures in
    let within = c.requires.within in
    span-within c.args.rows.now (option_copied c.args.picked) c.args.span.from c.args.span.many (c.args.to - c.min-many.result) c.min-many.result
    c.requires.span (omega (arith, few, within))

pub returns : goal.returns
returns c =
    ok-then c.back_page.result c.back_page.ensures (λ page is.
    last-at c.args.rows.now (option_copied c.args.picked) c.args.span.from c.args.span.many c.args.to c.args.max
    c.min-many.result c.as_slice.result.now page c.requires.span c.requires.within c.min-many.ensures
    (c.as_slice.ensures.value ∙ c.in_ok-back.ensures) is)
