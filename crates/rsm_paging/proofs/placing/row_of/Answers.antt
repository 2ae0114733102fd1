use Rattle.std.proofs.Common.{◌∙◌}
use Rattle.rsm_paging.proofs.PlaceLemmas.{row-of, row-of-none}
use Rattle.rsm_paging.proofs.placing.row_of.Goals as goal

pub returns-then-id-first : goal.returns-then-id-first
returns-then-id-first c = row-of-none c.args.rows.now c.requires c.in-Some.first.now c.in-Some.ensures.value c.args.id c.if-id-first.true

pub returns : goal.returns
returns c =
    c.nth.ensures ∙ row-of c.args.rows.now c.requires c.in-Some.first.now c.in-Some.ensures.value c.args.id c.if-id-first.false
