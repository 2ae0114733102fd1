use Rattle.std.proofs.Common.{ℕ, ◌∷◌, sym, ap, ◌∙◌}
use Rattle.std.specs.Option.{option_copied}
use Rattle.session_table.specs.Indexes.{from, present}
use Rattle.session_table.specs.Tables.{of_user}
use Rattle.session_table.proofs.UserLemmas.{not_met, step_found, step_less, step_none, step_on, step_past}
use Rattle.session_table.proofs.users.advance.Goals as goal

pub returns-in_default-stand-clause-items : goal.returns-in_default-stand-clause-items
returns-in_default-stand-clause-items c =
    absurd (not_met (option_copied c.args.local) c.in-Some.number c.args.slots.now.entries c.loop-next.next
    c.loop-next.invariant.way c.in-Some.is c.in_default-stand.ensures.none)

pub returns-then-is_of-clause-way : goal.returns-then-is_of-clause-way
returns-then-is_of-clause-way c =
    let there = c.in-Some-stand.ensures.found in
    step_on (option_copied c.args.local) c.in-Some.number there.0 c.in-Some-stand.slot.now c.args.slots.now.entries c.loop-next.next
    c.loop-next.invariant.way c.in-Some.is there.1

pub returns-then-is_of-clause-items : goal.returns-then-is_of-clause-items
returns-then-is_of-clause-items c =
    let there = c.in-Some-stand.ensures.found in
    let local = option_copied c.args.local in
    let s = c.in-Some-session.session in
    let rest = of_user local (present (from c.in-Some-stand.slot.now.next c.args.slots.now.entries)) in
    sym c.loop-next.invariant.same
    ∙ (step_found local c.in-Some.number there.0 c.in-Some-stand.slot.now c.args.slots.now.entries c.loop-next.next
    c.loop-next.invariant.way c.in-Some.is there.1 s c.in-Some-session.is (sym c.if-is_of.ensures)
    ∙ ap (λ (n : ℕ). (n, s) ∷ rest) (sym c.in-Some-stand.ensures.number))

pub loop-next-smaller-else-is_of : goal.loop-next-smaller-else-is_of
loop-next-smaller-else-is_of c =
    let there = c.in-Some-stand.ensures.found in
    step_less (option_copied c.args.local) c.in-Some.number there.0 c.in-Some-stand.slot.now c.args.slots.now.entries c.loop-next.next
    c.loop-next.invariant.way c.in-Some.is there.1

pub loop-next-preserved-else-is_of : goal.loop-next-preserved-else-is_of
loop-next-preserved-else-is_of c =
    let there = c.in-Some-stand.ensures.found in
    let local = option_copied c.args.local in
    record {
      way = step_on local c.in-Some.number there.0 c.in-Some-stand.slot.now c.args.slots.now.entries c.loop-next.next
          c.loop-next.invariant.way c.in-Some.is there.1;
      same = sym (step_past local c.in-Some.number there.0 c.in-Some-stand.slot.now c.args.slots.now.entries c.loop-next.next
          c.loop-next.invariant.way c.in-Some.is there.1 c.in-Some-session.session c.in-Some-session.is (sym c.if-is_of.ensures))
          ∙ c.loop-next.invariant.same;
    }

pub loop-next-smaller : goal.loop-next-smaller
loop-next-smaller c =
    let there = c.in-Some-stand.ensures.found in
    step_less (option_copied c.args.local) c.in-Some.number there.0 c.in-Some-stand.slot.now c.args.slots.now.entries c.loop-next.next
    c.loop-next.invariant.way c.in-Some.is there.1

pub loop-next-preserved : goal.loop-next-preserved
loop-next-preserved c =
    let there = c.in-Some-stand.ensures.found in
    let local = option_copied c.args.local in
    record {
      way = step_on local c.in-Some.number there.0 c.in-Some-stand.slot.now c.args.slots.now.entries c.loop-next.next
          c.loop-next.invariant.way c.in-Some.is there.1;
      same = sym (step_none local c.in-Some.number there.0 c.in-Some-stand.slot.now c.args.slots.now.entries c.loop-next.next
          c.loop-next.invariant.way c.in-Some.is there.1 c.in_default-session.is)
          ∙ c.loop-next.invariant.same;
    }
