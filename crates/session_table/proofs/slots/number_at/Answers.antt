use Rattle.std.proofs.Common.{ℕ, Some, ap, ◌∙◌}
use Rattle.std.proofs.lemmas.Option.{none-some as none_some, same_Some}
use Rattle.session_table.specs.declared.slots.Slot.{Slot}
use Rattle.session_table.proofs.PlaceLemmas.{entry_at}
use Rattle.session_table.proofs.slots.number_at.Goals as goal

pub returns-in-Some : goal.returns-in-Some
returns-in-Some c = λ n o at.
    ap (λ (x : ℕ × Slot). Some x.0) (same_Some (c.in-Some.number.now, c.in-Some._slot.now) (n, o)
    (c.in-Some.ensures.entry ∙ entry_at c.args.place n o c.args.slots.now.entries at))

pub returns-in-None : goal.returns-in-None
returns-in-None c = λ n o at. absurd (none_some (n, o) (c.in-None.ensures.entry ∙ entry_at c.args.place n o c.args.slots.now.entries at))
