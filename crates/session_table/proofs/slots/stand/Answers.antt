use Rattle.session_table.proofs.PlaceLemmas.{visited, visited_number}
use Rattle.session_table.proofs.slots.stand.Goals as goal

pub returns-in-Some-clause-number : goal.returns-in-Some-clause-number
returns-in-Some-clause-number c =
    visited_number c.args.number c.in-Some._place c.in-Some.number.now c.in-Some.slot.now c.args.slots.now.entries c.in-Some.ensures.entry
    c.in-Some.ensures.index

pub returns-in-Some-clause-found : goal.returns-in-Some-clause-found
returns-in-Some-clause-found c = (
  c.in-Some._place,
  visited c.args.number c.in-Some._place c.in-Some.number.now c.in-Some.slot.now c.args.slots.now.entries
      c.in-Some.ensures.entry c.in-Some.ensures.index,
)
