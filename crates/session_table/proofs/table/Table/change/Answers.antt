use Rattle.std.proofs.Common.{◌≡◌, ◌-◌, ◌^◌, length, min, set, sym, ap, subst, ◌∙◌}
use Rattle.std.proofs.lemmas.List.{length-set}
use Rattle.indexmap.specs.Layout.{length-set_value_at}
use Rattle.indexmap.specs.IndexMap.{spare}
use Rattle.session_table.specs.Changes.{change_of}
use Rattle.session_table.specs.Indexes.{AreChained, AreWakes, Slots, present, wake_in, with_change}
use Rattle.session_table.specs.Tables.{TableRecord, changed, changed_in}
use Rattle.session_table.proofs.LinkLemmas.{chained_alike}
use Rattle.session_table.proofs.MomentLemmas.{place_within, wakes_set}
use Rattle.session_table.proofs.PlaceLemmas.{address_stays, hash_changed}
use Rattle.session_table.proofs.PresentLemmas.{changed_nowhere, length_changed, present_changed}
use Rattle.session_table.proofs.table.Table.change.Goals as goal

pub set-requires : goal.set-requires
set-requires c =
    let inside = c.self.inside in
    let there = c.in-Some.ensures in
    place_within c.in-Some.place c.args.s there.0 inside.slots.entries inside.wakes c.self.invariant.moments there.1

pub invariant_of-self : goal.invariant_of-self
invariant_of-self c =
    let inside = c.self.inside in
    let es = inside.slots.entries in
    let p = c.in-Some.place in
    let s = c.args.s in
    let f = change_of c.args.to in
    let there = c.in-Some.ensures in
    let o = there.0 in
    let entries = sym (c.change-wake.ensures.entries s o there.1) in
    record {
      chained = subst (λ (fs : Slots). AreChained inside.heads.key fs inside.heads.firsts.entries inside.made) entries
          (chained_alike inside.heads.key p s o (with_change f o) (λ h. hash_changed inside.heads.key f (address_stays c.args.to) h o.session) (λ i. o.next)
          es inside.heads.firsts.entries inside.made c.self.invariant.chained there.1);
      moments = subst (AreWakes c.change-wake.new.slots.entries) (sym (c.set.ensures
          ∙ ap (set inside.wakes p) (c.change-wake.ensures.wake s o there.1)))
          (subst (λ (fs : Slots). AreWakes fs (set inside.wakes p (wake_in (with_change f o).session))) entries
          (wakes_set p s o (with_change f o) es inside.wakes c.self.invariant.moments there.1));
      counted = c.self.invariant.counted ∙ sym (ap length (ap present (c.change-wake.ensures.entries s o there.1)
          ∙ present_changed p s o f 0 inside.made es c.self.invariant.chained.climbs there.1) ∙ length_changed s f (present es));
    }

pub returns-in-Some : goal.returns-in-Some
returns-in-Some c =
    let inside = c.self.inside in
    let es = inside.slots.entries in
    let p = c.in-Some.place in
    let s = c.args.s in
    let f = change_of c.args.to in
    let there = c.in-Some.ensures in
    let sessions = ap present (c.change-wake.ensures.entries s there.0 there.1)
    ∙ present_changed p s there.0 f 0 inside.made es c.self.invariant.chained.climbs there.1 in
    let places = ap length (c.change-wake.ensures.entries s there.0 there.1) ∙ length-set_value_at es p (with_change f there.0) in
    let moments = ap length c.set.ensures ∙ length-set inside.wakes p c.change-wake.result in
    (λ i. record {
      lines = inside.lines.items;
      opened = inside.opened;
      made = inside.made;
      sessions = sessions i;
      spare = min (min (c.change-wake.ensures.room i) (spare inside.heads.firsts)) (min (moments i - places i) (2 ^ 64 - 1 - inside.made));
    }) ∙ ap (λ t. changed s f t) c.self.view_is

pub returns-in_default : goal.returns-in_default
returns-in_default c =
    let inside = c.self.inside in
    let s = c.args.s in
    let f = change_of c.args.to in
    let sessions = sym (changed_nowhere s 0 inside.made f inside.slots.entries c.self.invariant.chained.climbs c.in_default.ensures) in
    let same = subst (λ (t : TableRecord). t.sessions ≡ changed_in s f t.sessions) c.self.view_is sessions in
    λ i. record c.args.self.now { sessions = same i }
