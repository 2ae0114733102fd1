use Rattle.std.proofs.Common.{◌≡◌, ◌-◌, ◌^◌, ℕ, None, length, min, set, nat_eq, arith, sym, ap, subst, ◌∙◌}
use Rattle.std.proofs.lemmas.List.{length-set}
use Rattle.std.specs.Map.{remove_entry}
use Rattle.indexmap.specs.IndexMap.{spare}
use Rattle.indexmap.specs.Layout.{length-set_value_at}
use Rattle.session_table.specs.Indexes.{AreChained, AreWakes, Slots, emptied, present, session_in}
use Rattle.session_table.specs.Tables.{TableRecord}
use Rattle.session_table.proofs.MomentLemmas.{place_within, wakes_relinked, wakes_set}
use Rattle.session_table.proofs.PlaceLemmas.{climbs_relinked, length_relinked, lookup_at}
use Rattle.session_table.proofs.PresentLemmas.{length_removed, lookup_present, present_relinked, present_without, removed_nowhere}
use Rattle.session_table.proofs.table.Table.remove.Goals as goal

pub returns-in_default-clause-table : goal.returns-in_default-clause-table
returns-in_default-clause-table c =
    let inside = c.self.inside in
    let s = c.args.s in
    let same = removed_nowhere s 0 inside.made inside.slots.entries c.self.invariant.chained.climbs (ap session_in c.in_default.ensures.none) in
    let sessions = subst (λ (t : TableRecord). t.sessions ≡ remove_entry (nat_eq s) t.sessions) c.self.view_is (sym same) in
    λ i. record c.args.self.now { sessions = sessions i }

pub returns-in_default-session-clause-table : goal.returns-in_default-session-clause-table
returns-in_default-session-clause-table c =
    let inside = c.self.inside in
    let es = inside.slots.entries in
    let s = c.args.s in
    let climbs = c.self.invariant.chained.climbs in
    let there = lookup_at c.in-Some.place s c.in-Some.slot.now 0 inside.made es climbs c.in-Some.ensures.found in
    let same = removed_nowhere s 0 inside.made es climbs (ap session_in there ∙ c.in_default-session.is) in
    let sessions = subst (λ (t : TableRecord). t.sessions ≡ remove_entry (nat_eq s) t.sessions) c.self.view_is (sym same) in
    λ i. record c.args.self.now { sessions = sessions i }

pub set-requires : goal.set-requires
set-requires c =
    let inside = c.self.inside in
    place_within c.in-Some.place c.args.s c.in-Some.slot.now inside.slots.entries inside.wakes c.self.invariant.moments c.in-Some.ensures.found

pub invariant_of-self : goal.invariant_of-self
invariant_of-self c =
    let inside = c.self.inside in
    let es = inside.slots.entries in
    let fs = c.bridge.new.slots.entries in
    let p = c.in-Some.place in
    let s = c.args.s in
    let o = c.in-Some.slot.now in
    let at = c.in-Some.ensures.found in
    let stays = c.bridge.ensures.there p o at in
    let entries = sym (c.empty.ensures.entries s o stays) in
    let climbs = c.self.invariant.chained.climbs in
    let there = lookup_present s 0 inside.made es climbs ∙ (ap session_in (lookup_at p s o 0 inside.made es climbs at) ∙ c.in-Some-session.is) in
    let fewer = length_removed s c.in-Some-session.session (present es) there in
    let sessions = ap present (c.empty.ensures.entries s o stays)
    ∙ (present_without p s o 0 inside.made fs (climbs_relinked 0 inside.made es fs c.bridge.ensures.same climbs) stays
    ∙ ap (remove_entry (nat_eq s)) (present_relinked es fs c.bridge.ensures.same)) in
    record {
      chained = subst (λ (l : Slots). AreChained c.bridge.new.heads.key l c.bridge.new.heads.firsts.entries inside.made) entries
          (c.bridge.ensures.chained inside.made p o c.self.invariant.chained at);
      moments = subst (AreWakes c.empty.new.slots.entries) (sym c.set.ensures)
          (subst (λ (l : Slots). AreWakes l (set inside.wakes p None)) entries
          (wakes_set p s o (emptied o) fs inside.wakes (wakes_relinked es fs inside.wakes c.bridge.ensures.same c.self.invariant.moments) stays));
      counted = omega (arith, c.self.invariant.counted, ap length sessions, fewer);
    }

pub returns-clause-table : goal.returns-clause-table
returns-clause-table c =
    let inside = c.self.inside in
    let es = inside.slots.entries in
    let fs = c.bridge.new.slots.entries in
    let p = c.in-Some.place in
    let s = c.args.s in
    let o = c.in-Some.slot.now in
    let stays = c.bridge.ensures.there p o c.in-Some.ensures.found in
    let climbs = climbs_relinked 0 inside.made es fs c.bridge.ensures.same c.self.invariant.chained.climbs in
    let without = ap (remove_entry (nat_eq s)) (present_relinked es fs c.bridge.ensures.same) in
    let sessions : present c.empty.new.slots.entries ≡ remove_entry (nat_eq s) (present es) =
    ap present (c.empty.ensures.entries s o stays) ∙ (present_without p s o 0 inside.made fs climbs stays ∙ without) in
    let room : ℕ = min (min (spare c.empty.new.slots) (spare c.bridge.new.heads.firsts))
    (min (length c.set.new.self - length c.empty.new.slots.entries) (2 ^ 64 - 1 - inside.made)) in
    (λ i. record {
      lines = inside.lines.items;
      opened = inside.opened;
      made = inside.made;
      sessions = sessions i;
      spare = room;
    }) ∙ ap (λ (t : TableRecord). record t { sessions = remove_entry (nat_eq s) t.sessions; spare = room }) c.self.view_is

pub returns-clause-keeps_room : goal.returns-clause-keeps_room
returns-clause-keeps_room c =
    let inside = c.self.inside in
    let fs = c.bridge.new.slots.entries in
    let p = c.in-Some.place in
    let o = c.in-Some.slot.now in
    let stays = c.bridge.ensures.there p o c.in-Some.ensures.found in
    let same = length_relinked inside.slots.entries fs c.bridge.ensures.same in
    let places = ap length (c.empty.ensures.entries c.args.s o stays) ∙ length-set_value_at fs p (emptied o) in
    let moments = ap length c.set.ensures ∙ length-set inside.wakes p None in
    omega (
      arith,
      ap (λ (t : TableRecord). t.spare) c.self.view_is,
      c.bridge.ensures.room,
      c.bridge.ensures.places,
      c.empty.ensures.room,
      same,
      places,
      moments,
    )
