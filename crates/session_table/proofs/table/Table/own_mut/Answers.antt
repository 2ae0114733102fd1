use Rattle.std.proofs.Common.{◌≡◌, ◌-◌, ◌^◌, ℕ, Some, None, length, min, inl, inr, slice_get, sym, ap, subst, ◌∙◌}
use Rattle.std.proofs.lemmas.Option.{none-some as none_some, same_Some}
use Rattle.std.specs.Map.{values_of}
use Rattle.std.specs.Option.{option_copied_mut, option_map}
use Rattle.indexmap.specs.IndexMap.{set_value_at, spare, with_value_at}
use Rattle.indexmap.specs.Layout.{length-set_value_at}
use Rattle.session_table.specs.declared.slots.Slot.{Slot}
use Rattle.session_table.specs.Indexes.{IsAt, IsIndexed, Slots, present, session_in, with_change}
use Rattle.session_table.specs.Sessions.{OwnRecord, SessionRecord, own_of, with_own}
use Rattle.session_table.specs.Tables.{Rises, TableRecord, changed, session_of}
use Rattle.session_table.proofs.LinkLemmas.{chained_alike}
use Rattle.session_table.proofs.MomentLemmas.{wake_owned, wakes_alike}
use Rattle.session_table.proofs.PlaceLemmas.{hash_changed, lookup_at, set_again, value_at}
use Rattle.session_table.proofs.PresentLemmas.{length_changed, lookup_present, present_changed, rises_present}
use Rattle.session_table.specs.contracts.table.Table.{the_view}
use Rattle.session_table.proofs.table.Table.own_mut.Goals as goal

pub returns-in_default : goal.returns-in_default
returns-in_default c =
    let inside = c.self.inside in
    let es = inside.slots.entries in
    let climbs = c.self.invariant.chained.climbs in
    let none = lookup_present c.args.s 0 inside.made es climbs ∙ ap session_in c.in_default.ensures in (
      λ i. inr (c.self.view_is i),
      record {
        lends = tt;
        there = sym (ap (option_map own_of) none) ∙ ap (λ (t : TableRecord). option_map own_of (session_of c.args.s t)) c.self.view_is;
        rises = subst (λ (t : TableRecord). Rises 0 t.sessions t.made) c.self.view_is (rises_present 0 inside.made es climbs);
      },
    )

pub returns-in_default-get_index_mut : goal.returns-in_default-get_index_mut
returns-in_default-get_index_mut c =
    let there = c.in-Some.ensures in
    absurd (none_some there.0 (sym (ap option_copied_mut c.in_default-get_index_mut.is) ∙ (c.get_index_mut.ensures.value
    ∙ value_at c.in-Some.place c.args.s there.0 c.self.inside.slots.entries there.1)))

-- what stands at the place, and what is lent of it
stood : (p s : ℕ) (o z : Slot) (es : Slots) → IsAt p s z es → Some o ≡ slice_get (values_of es) p → IsAt p s o es
stood p s o z es at is = subst (λ (x : Slot). IsAt p s x es) (sym (same_Some o z (is ∙ value_at p s z es at))) at

written : (w : OwnRecord) (o : Slot) (x : SessionRecord) → Some x ≡ o.session
    → with_change (with_own w) o ≡ record { session = Some (with_own w x); next = o.next }
written w o x is = λ i. record { session = option_map (with_own w) (sym is i); next = o.next }

pub invariant_of-self-in_default-as_mut : goal.invariant_of-self-in_default-as_mut
invariant_of-self-in_default-as_mut c =
    let inside = c.self.inside in
    let es = inside.slots.entries in
    let p = c.in-Some.place in
    let s = c.args.s in
    let there = c.in-Some.ensures in
    let o = c.in-Some-get_index_mut.slot.now in
    let at = stood p s o there.0 es there.1 c.in-Some-get_index_mut.ensures.value in
    subst (λ (l : Slots). IsIndexed inside.heads.key l inside.wakes inside.heads.firsts.entries inside.made inside.there)
    (sym (set_again p s o es at)) c.self.invariant

pub returns-in_default-as_mut : goal.returns-in_default-as_mut
returns-in_default-as_mut c =
    let inside = c.self.inside in
    let es = inside.slots.entries in
    let p = c.in-Some.place in
    let s = c.args.s in
    let there = c.in-Some.ensures in
    let o = c.in-Some-get_index_mut.slot.now in
    let at = stood p s o there.0 es there.1 c.in-Some-get_index_mut.ensures.value in
    let again = set_again p s o es at in
    let climbs = c.self.invariant.chained.climbs in
    let none : session_of s (the_view inside) ≡ None =
    lookup_present s 0 inside.made es climbs
    ∙ (ap session_in (lookup_at p s o 0 inside.made es climbs at) ∙ sym c.in_default-as_mut.ensures.value) in
    let same : the_view (record inside { slots = with_value_at inside.slots p o }) ≡ c.args.self.now =
    (λ i. record {
      lines = inside.lines.items;
      opened = inside.opened;
      made = inside.made;
      sessions = present (again i);
      spare = min (min (spare inside.slots) (spare inside.heads.firsts)) (min (length inside.wakes - length (again i)) (2 ^ 64 - 1 - inside.made));
    }) ∙ c.self.view_is in (
      λ i. inr (same i),
      record {
        lends = tt;
        there = sym (ap (option_map own_of) none) ∙ ap (λ (t : TableRecord). option_map own_of (session_of s t)) c.self.view_is;
        rises = subst (λ (t : TableRecord). Rises 0 t.sessions t.made) c.self.view_is (rises_present 0 inside.made es climbs);
      },
    )

pub invariant_of-self-lent : goal.invariant_of-self-lent
invariant_of-self-lent c = λ w.
    let inside = c.self.inside in
    let es = inside.slots.entries in
    let p = c.in-Some.place in
    let s = c.args.s in
    let there = c.in-Some.ensures in
    let o = c.in-Some-get_index_mut.slot.now in
    let at = stood p s o there.0 es there.1 c.in-Some-get_index_mut.ensures.value in
    let alike = λ (h : ℕ). hash_changed inside.heads.key (with_own w) (λ x i. x.address) h o.session in
    subst (λ (x : Slot). IsIndexed inside.heads.key (set_value_at es p x) inside.wakes inside.heads.firsts.entries inside.made inside.there)
    (written w o c.in-Some-as_mut.session.now c.in-Some-as_mut.ensures.value)
    (record {
      chained = chained_alike inside.heads.key p s o (with_change (with_own w) o) alike (λ i. o.next) es inside.heads.firsts.entries inside.made
          c.self.invariant.chained at;
      moments = wakes_alike p s o (with_change (with_own w) o) es inside.wakes (wake_owned w o.session) c.self.invariant.moments at;
      counted = c.self.invariant.counted ∙ sym (ap length (present_changed p s o (with_own w) 0 inside.made es c.self.invariant.chained.climbs at)
          ∙ length_changed s (with_own w) (present es));
    })

pub returns : goal.returns
returns c =
    let inside = c.self.inside in
    let es = inside.slots.entries in
    let p = c.in-Some.place in
    let s = c.args.s in
    let there = c.in-Some.ensures in
    let o = c.in-Some-get_index_mut.slot.now in
    let x = c.in-Some-as_mut.session.now in
    let at = stood p s o there.0 es there.1 c.in-Some-get_index_mut.ensures.value in
    let climbs = c.self.invariant.chained.climbs in
    let session : session_of s (the_view inside) ≡ Some x =
    lookup_present s 0 inside.made es climbs
    ∙ (ap session_in (lookup_at p s o 0 inside.made es climbs at) ∙ sym c.in-Some-as_mut.ensures.value) in
    let owned : (w : OwnRecord)
    → the_view (record inside { slots = with_value_at inside.slots p (record { session = Some (with_own w x); next = o.next }) })
    ≡ changed s (with_own w) c.args.self.now =
    λ w.
    let is = sym (written w o x c.in-Some-as_mut.ensures.value) in
    let sessions = ap (λ (z : Slot). present (set_value_at es p z)) is ∙ present_changed p s o (with_own w) 0 inside.made es climbs at in
    let places = length-set_value_at es p (record { session = Some (with_own w x); next = o.next }) in
    (λ i. record {
      lines = inside.lines.items;
      opened = inside.opened;
      made = inside.made;
      sessions = sessions i;
      spare = min (min (spare inside.slots) (spare inside.heads.firsts)) (min (length inside.wakes - places i) (2 ^ 64 - 1 - inside.made));
    }) ∙ ap (λ t. changed s (with_own w) t) c.self.view_is in (
      λ i. inl (c.own_mut.result.ghost_name, λ w. owned w i),
      record {
        lends = tt;
        there = ap Some c.own_mut.ensures.there
            ∙ (sym (ap (option_map own_of) session) ∙ ap (λ (t : TableRecord). option_map own_of (session_of s t)) c.self.view_is);
        rises = subst (λ (t : TableRecord). Rises 0 t.sessions t.made) c.self.view_is (rises_present 0 inside.made es climbs);
      },
    )
