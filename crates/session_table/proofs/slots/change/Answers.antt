use Rattle.std.proofs.Common.{ap, ◌∙◌}
use Rattle.std.proofs.lemmas.Option.{none-some as none_some, same_Some}
use Rattle.indexmap.specs.IndexMap.{set_value_at}
use Rattle.session_table.specs.declared.slots.Slot.{Slot}
use Rattle.session_table.specs.Changes.{change_of}
use Rattle.session_table.specs.Indexes.{wake_in, with_change}
use Rattle.session_table.proofs.PlaceLemmas.{value_at}
use Rattle.session_table.proofs.slots.change.Goals as goal

pub returns-in-Some-clause-entries : goal.returns-in-Some-clause-entries
returns-in-Some-clause-entries c = λ n o at.
    let es = c.args.slots.now.entries in
    let is = same_Some c.in-Some.slot.now o (c.in-Some.ensures.value ∙ value_at c.args.place n o es at) in
    ap (set_value_at es c.args.place) (c.change.ensures ∙ ap (with_change (change_of c.args.change)) is)

pub returns-in-Some-clause-wake : goal.returns-in-Some-clause-wake
returns-in-Some-clause-wake c = λ n o at.
    let es = c.args.slots.now.entries in
    let is = same_Some c.in-Some.slot.now o (c.in-Some.ensures.value ∙ value_at c.args.place n o es at) in
    c.wake.ensures
    ∙ ap (λ (x : Slot). wake_in x.session) (c.change.ensures ∙ ap (with_change (change_of c.args.change)) is)

pub returns-in-None-clause-entries : goal.returns-in-None-clause-entries
returns-in-None-clause-entries c = λ n o at.
    absurd (none_some o (c.in-None.ensures.value ∙ value_at c.args.place n o c.args.slots.now.entries at))

pub returns-in-None-clause-wake : goal.returns-in-None-clause-wake
returns-in-None-clause-wake c = λ n o at.
    absurd (none_some o (c.in-None.ensures.value ∙ value_at c.args.place n o c.args.slots.now.entries at))
