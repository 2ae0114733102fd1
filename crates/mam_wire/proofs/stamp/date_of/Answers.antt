use Rattle.std.proofs.Common.{◌≡◌, ℤ, pos, ◌∙◌, subst, arith, w64, true, false}
use Rattle.std.proofs.lemmas.Int.{to_z_pos}
use Rattle.jiff.specs.Types.{Day}
use Rattle.jiff.specs.Words.{IsOnly}
use Rattle.jiff.proofs.SpanFacts.{can_add-days, date_add-days}
use Rattle.mam_wire.proofs.DayLemmas.{day-in, day-is, first-day, not-before}
use Rattle.mam_wire.proofs.stamp.date_of.Goals as goal

pub unreachable-requires : goal.unreachable-requires
unreachable-requires c =
    let few = c.requires in
    let only = subst (λ (z : ℤ). IsOnly Day z c.days.result) (to_z_pos w64 c.args.days (omega (arith, few))) c.days.ensures in
    let first = first-day c.date.result c.date.ensures.0 c.date.ensures.1 c.date.ensures.2 in
    let can = can_add-days c.date.result (pos c.args.days) c.days.result only in
    let s = c.in-Err.ensures.succeeds in
    absurd (let z : false ≡ true = s.1 (can.1 (day-in c.date.result c.args.days first few)) in cc)

pub returns-clause-day : goal.returns-clause-day
returns-clause-day c =
    let few = c.requires in
    let only = subst (λ (z : ℤ). IsOnly Day z c.days.result) (to_z_pos w64 c.args.days (omega (arith, few))) c.days.ensures in
    let first = first-day c.date.result c.date.ensures.0 c.date.ensures.1 c.date.ensures.2 in
    c.in-Ok.ensures.value ∙ date_add-days c.date.result (pos c.args.days) c.days.result only ∙ day-is c.date.result c.args.days first

pub returns-clause-year : goal.returns-clause-year
returns-clause-year c =
    let few = c.requires in
    let only = subst (λ (z : ℤ). IsOnly Day z c.days.result) (to_z_pos w64 c.args.days (omega (arith, few))) c.days.ensures in
    let first = first-day c.date.result c.date.ensures.0 c.date.ensures.1 c.date.ensures.2 in
    not-before c.date.result c.in-Ok.date c.args.days c.date.ensures.0 first
    (c.in-Ok.ensures.value ∙ date_add-days c.date.result (pos c.args.days) c.days.result only ∙ day-is c.date.result c.args.days first)
