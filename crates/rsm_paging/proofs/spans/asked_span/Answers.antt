use Rattle.std.proofs.Common.{◌≡◌, ◌∙◌, ap, sym, subst, ℕ}
use Rattle.std.specs.Option.{option_copied}
use Rattle.rsm_paging.specs.Pages.{StampsRise}
use Rattle.rsm_paging.specs.Places.{IsSpan, between, rows_at}
use Rattle.rsm_paging.proofs.SpanLemmas.{asked-span, span-all}
use Rattle.rsm_paging.proofs.spans.asked_span.Goals.{After-many_of, After-before_start-from}
use Rattle.rsm_paging.proofs.spans.asked_span.Goals as goal

pub before_start-from-requires-clause-span : goal.before_start-from-requires-clause-span
before_start-from-requires-clause-span c =
    span-all c.args.rows.now (option_copied c.args.picked) c.many_of.result c.requires.ids c.many_of.type_inv c.many_of.ensures c.requires.there

pub before_start-from-requires-clause-stamps : goal.before_start-from-requires-clause-stamps
before_start-from-requires-clause-stamps c =
    subst (λ (n : ℕ). StampsRise 0 (rows_at c.args.rows.now (option_copied c.args.picked) 0 n)) (sym c.many_of.ensures) c.requires.stamps

pub until_end-until-requires-clause-span : goal.until_end-until-requires-clause-span
until_end-until-requires-clause-span c =
    span-all c.args.rows.now (option_copied c.args.picked) c.many_of.result c.requires.ids c.many_of.type_inv c.many_of.ensures c.requires.there

pub until_end-until-requires-clause-stamps : goal.until_end-until-requires-clause-stamps
until_end-until-requires-clause-stamps c =
    subst (λ (n : ℕ). StampsRise 0 (rows_at c.args.rows.now (option_copied c.args.picked) 0 n)) (sym c.many_of.ensures) c.requires.stamps

both : (c : goal.After-saturating_sub) → IsSpan c.args.rows.now (option_copied c.args.picked) c.before_start-from.result c.saturating_sub.result
    × (rows_at c.args.rows.now (option_copied c.args.picked) c.before_start-from.result c.saturating_sub.result
    ≡ between c.args.filter.now (rows_at c.args.rows.now (option_copied c.args.picked) 0 c.many_of.result))
both c =
    asked-span c.args.filter.now c.args.rows.now (option_copied c.args.picked) c.many_of.result c.before_start-from.result c.until_end-until.result
    c.saturating_sub.result
    (span-all c.args.rows.now (option_copied c.args.picked) c.many_of.result c.requires.ids c.many_of.type_inv c.many_of.ensures c.requires.there)
    (subst (λ (n : ℕ). StampsRise 0 (rows_at c.args.rows.now (option_copied c.args.picked) 0 n)) (sym c.many_of.ensures) c.requires.stamps)
    c.before_start-from.ensures.within c.before_start-from.ensures.count
    c.until_end-until.ensures.within c.until_end-until.ensures.count c.saturating_sub.ensures

pub returns-clause-span : goal.returns-clause-span
returns-clause-span c = (both c).0

pub returns-clause-asked : goal.returns-clause-asked
returns-clause-asked c = (both c).1 ∙ ap (λ (n : ℕ). between c.args.filter.now (rows_at c.args.rows.now (option_copied c.args.picked) 0 n)) c.many_of.ensures
