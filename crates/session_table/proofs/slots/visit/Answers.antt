use Rattle.session_table.proofs.PlaceLemmas.{visited}
use Rattle.session_table.proofs.slots.visit.Goals as goal

pub returns-in-Some-clause-found : goal.returns-in-Some-clause-found
returns-in-Some-clause-found c =
    visited c.args.number c.in-Some.place c.in-Some._number.now c.in-Some.slot.now c.args.slots.now.entries c.in-Some.ensures.entry
    c.in-Some.ensures.index
