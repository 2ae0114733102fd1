use Rattle.std.proofs.Common.{rules, ◌∙◌, sym, ap, ◌∷◌, drop, Ok, suc, drop-cons}
use Rattle.stanza_model.specs.declared.form.Field.{Field}
use Rattle.mam_wire.specs.Faults.{IsCause}
use Rattle.mam_wire.specs.Filters.{no_filter, put_all}
use Rattle.mam_wire.proofs.FilterLemmas.{cause_of_all}
use Rattle.mam_wire.proofs.filter.put_all.Goals as goal

pub returns-in_err-filter-clause-fault : goal.returns-in_err-filter-clause-fault
returns-in_err-filter-clause-fault c =
    let at = drop-cons c.args.fields.now c.loop-field.field-index c.field-item.result c.loop-field-test.true in
    let front = at ∙ ap (λ (f : Field). f ∷ drop (suc c.loop-field.field-index) c.args.fields.now) (sym c.field-item.is) in
    let fact : IsCause (put_all c.args.fields.now (Ok no_filter)) c.in_err-filter.field-0.0 =
    cause_of_all (drop c.loop-field.field-index c.args.fields.now) _ c.field-item.result c.loop-field.filter c.in_err-filter.field-0.0 front
    c.in_err-filter.ensures.fault _ c.loop-field.invariant in
    search (rules, fact)
