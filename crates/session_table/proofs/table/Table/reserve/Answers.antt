use Rattle.std.proofs.Common.{◌≡◌, ◌-◌, ◌^◌, ℕ, List, length, min, filter, arith, sym, ap, subst, ◌∙◌}
use Rattle.indexmap.specs.IndexMap.{spare}
use Rattle.session_table.specs.Indexes.{AreChained, Slots, is_filled, present}
use Rattle.session_table.specs.Tables.{TableRecord}
use Rattle.session_table.proofs.LinkLemmas.{chained_filled}
use Rattle.session_table.proofs.MomentLemmas.{wakes_room}
use Rattle.session_table.proofs.PresentLemmas.{present_filled}
use Rattle.session_table.proofs.table.Table.reserve.Goals as goal

pub invariant_of-self-in-Continue-branch-3 : goal.invariant_of-self-in-Continue-branch-3
invariant_of-self-in-Continue-branch-3 c =
    let inside = c.self.inside in
    let es = inside.slots.entries in
    let slots = sym (c.in_ok-grow.ensures.entries ∙ ap (λ (l : Slots). filter is_filled l) c.reserve.ensures.entries) in
    record {
      chained = subst (λ (l : Slots). AreChained inside.heads.key l c.reserve-2.new.self.entries inside.made) slots
          (subst (λ (heads : List (ℕ × ℕ)). AreChained inside.heads.key (filter is_filled es) heads inside.made) (sym c.reserve-2.ensures.entries)
          (chained_filled inside.heads.key es inside.heads.firsts.entries inside.made c.self.invariant.chained));
      moments = c.in_ok-grow.ensures.moments;
      counted = c.self.invariant.counted ∙ sym (ap length (ap present (c.in_ok-grow.ensures.entries
          ∙ ap (λ (l : Slots). filter is_filled l) c.reserve.ensures.entries) ∙ present_filled es));
    }

pub returns-in_ok-grow-clause-same : goal.returns-in_ok-grow-clause-same
returns-in_ok-grow-clause-same c =
    let inside = c.self.inside in
    let es = inside.slots.entries in
    let sessions = ap present (c.in_ok-grow.ensures.entries ∙ ap (λ (l : Slots). filter is_filled l) c.reserve.ensures.entries)
    ∙ present_filled es in
    let room : ℕ = min (min (spare c.grow.new.slots) (spare c.reserve-2.new.self))
    (min (length c.grow.new.wakes - length c.grow.new.slots.entries) (2 ^ 64 - 1 - inside.made)) in
    (λ i. record {
      lines = inside.lines.items;
      opened = inside.opened;
      made = inside.made;
      sessions = sessions i;
      spare = room;
    }) ∙ ap (λ (t : TableRecord). record t { spare = room }) c.self.view_is

pub returns-else-len-clause-room : goal.returns-else-len-clause-room
returns-else-len-clause-room c =
    let inside = c.self.inside in
    let most = wakes_room inside.slots.entries inside.wakes c.self.invariant.moments in
    let len : c.len.result ≡ length c.reserve.new.self.entries = c.len.ensures.len in
    omega (
      arith,
      most,
      len,
      c.len-2.ensures,
      c.in_ok-reserve.ensures.ok,
      c.in_ok-reserve-2.ensures.ok,
      ap length c.reserve.ensures.entries,
      c.if-self.false,
      c.if-len.false,
    )
