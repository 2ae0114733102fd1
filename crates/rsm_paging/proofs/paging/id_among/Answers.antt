use Rattle.std.proofs.Common.{◌∙◌, ap, sym, Bool, Some, None, if◌then◌else◌}
use Rattle.rsm_paging.proofs.PageLemmas.{found-id}
use Rattle.rsm_paging.proofs.paging.id_among.Goals as goal

pub returns-then-has_row : goal.returns-then-has_row
returns-then-has_row c =
    sym (found-id c.args.number c.args.rows.now
    ∙ ap (λ (b : Bool). if b then Some c.args.number else None) (sym c.has_row.ensures ∙ c.if-has_row.true))

pub returns-else-has_row : goal.returns-else-has_row
returns-else-has_row c =
    sym (found-id c.args.number c.args.rows.now
    ∙ ap (λ (b : Bool). if b then Some c.args.number else None) (sym c.has_row.ensures ∙ c.if-has_row.false))
