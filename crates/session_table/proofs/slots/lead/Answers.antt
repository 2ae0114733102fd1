use Rattle.std.proofs.Common.{sym, ap, ◌∙◌}
use Rattle.std.proofs.lemmas.Option.{none-some as none_some, same_Some}
use Rattle.std.specs.Option.{option_copied_mut}
use Rattle.indexmap.specs.IndexMap.{set_value_at}
use Rattle.session_table.specs.Indexes.{leading_to}
use Rattle.session_table.proofs.PlaceLemmas.{value_at}
use Rattle.session_table.proofs.slots.lead.Goals as goal

pub returns-in-Some-clause-entries : goal.returns-in-Some-clause-entries
returns-in-Some-clause-entries c = λ n o at.
    let es = c.args.slots.now.entries in
    let is = same_Some c.in-Some.slot.now o (c.in-Some.ensures.value ∙ value_at c.args.place n o es at) in
    ap (λ x. set_value_at es c.args.place (leading_to c.args.next x)) is

pub returns-in_default-clause-entries : goal.returns-in_default-clause-entries
returns-in_default-clause-entries c = λ n o at.
    absurd (none_some o (sym (ap option_copied_mut c.in_default.is) ∙ (c.get_index_mut.ensures.value ∙ value_at c.args.place n o c.args.slots.now.entries at)))
