use Rattle.std.proofs.Common.{◌∙◌, ◌-◌, arith, refl}
use Rattle.std.specs.Option.{option_copied}
use Rattle.rsm_paging.proofs.FrontLemmas.{first-at}
use Rattle.rsm_paging.proofs.PageLemmas.{ok-then}
use Rattle.rsm_paging.proofs.SpanLemmas.{span-within}
use Rattle.rsm_paging.proofs.spans.page_from.Goals as goal

pub matches_at-requires : goal.matches_at-requires
matches_at-requires c =
    let few = c.min.ensures in
    let within = c.requires.within in
    span-within c.args.rows.now (option_copied c.args.picked) c.args.span.from c.args.span.many c.args.from c.min.result c.requires.span
    (omega (arith, few, within))

pub returns : goal.returns
returns c =
    ok-then c.front_page.result c.front_page.ensures (λ page is.
    first-at c.args.rows.now (option_copied c.args.picked) c.args.span.from c.args.span.many c.args.from (c.args.span.many - c.args.from) c.args.max
    c.min.result c.as_slice.result.now page c.requires.span c.requires.within refl c.min.ensures
    (c.as_slice.ensures.value ∙ c.in_ok-front.ensures) is)
