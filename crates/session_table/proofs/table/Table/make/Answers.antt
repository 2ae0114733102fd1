use Rattle.std.proofs.Common.{◌≡◌, ◌+◌, ◌<◌, ◌++◌, ◌∷◌, [], ℕ, Some, None, true, ◌-◌, ◌^◌, min, length, length-append, arith, sym, ap, subst, ◌∙◌}
use Rattle.std.proofs.lemmas.Bool.{eq-eqb}
use Rattle.indexmap.specs.IndexMap.{spare}
use Rattle.session_table.specs.declared.slots.Slot.{Slot}
use Rattle.session_table.specs.Hashes.{user_hash}
use Rattle.session_table.specs.Indexes.{AreChained, AreWakes, Slots, has_hash, present, wake_in}
use Rattle.session_table.specs.Sessions.{SessionRecord, begun}
use Rattle.session_table.specs.Tables.{TableRecord}
use Rattle.session_table.proofs.MomentLemmas.{wakes_added, wakes_relinked}
use Rattle.session_table.proofs.PlaceLemmas.{climbs_relinked, length_relinked, lookup_new}
use Rattle.session_table.proofs.PresentLemmas.{few_present, present_added, present_relinked}
use Rattle.session_table.proofs.table.Table.make.Goals as goal

pub add-requires-clause-new : goal.add-requires-clause-new
add-requires-clause-new c =
    let inside = c.self.inside in
    lookup_new (inside.made + 1) 0 inside.made c.join.new.slots.entries
    (climbs_relinked 0 inside.made inside.slots.entries c.join.new.slots.entries c.join.ensures.same c.self.invariant.chained.climbs) (omega arith)

pub overflow_add-self-2 : goal.overflow_add-self-2
overflow_add-self-2 c =
    let inside = c.self.inside in
    let few = few_present 0 inside.made inside.slots.entries c.self.invariant.chained.climbs in
    omega (arith, few, c.self.invariant.counted, c.requires, ap (λ (t : TableRecord). t.spare) c.self.view_is)

pub invariant_of-self : goal.invariant_of-self
invariant_of-self c =
    let inside = c.self.inside in
    let number = inside.made + 1 in
    let es = inside.slots.entries in
    let fs = c.join.new.slots.entries in
    let s = c.begin-session.result in
    let o : Slot = record { session = Some s; next = None } in
    let begins = c.begin-session.ensures in
    let local = c.local_of.ensures ∙ ap (λ (r : SessionRecord). r.address.local) (sym begins) in
    let own : has_hash inside.heads.key c.hash_of-hash.result (Some s) ≡ true =
    eq-eqb c.hash_of-hash.result (user_hash inside.heads.key s.address.local) (c.hash_of-hash.ensures ∙ ap (user_hash inside.heads.key) local) in
    let never : wake_in (Some s) ≡ None = ap (λ (r : SessionRecord). wake_in (Some r)) begins in
    let room : length fs < length inside.wakes =
    omega (arith, c.requires, ap (λ (t : TableRecord). t.spare) c.self.view_is, length_relinked es fs c.join.ensures.same) in
    record {
      chained = subst (λ (l : Slots). AreChained c.join.new.heads.key l c.join.new.heads.firsts.entries number) (sym c.add.ensures.entries)
          (c.join.ensures.chained o own (λ i. None));
      moments = subst (λ (l : Slots). AreWakes l inside.wakes) (sym c.add.ensures.entries)
          (wakes_added number o fs inside.wakes (wakes_relinked es fs inside.wakes c.join.ensures.same c.self.invariant.moments) room never);
      counted = ap (λ (n : ℕ). n + 1) c.self.invariant.counted ∙ sym (ap length (ap present c.add.ensures.entries ∙ present_added number o fs)
          ∙ (length-append (present fs) ((number, s) ∷ []) ∙ ap (λ l. length l + 1) (present_relinked es fs c.join.ensures.same)));
    }

pub returns-clause-table : goal.returns-clause-table
returns-clause-table c =
    let inside = c.self.inside in
    let number = inside.made + 1 in
    let es = inside.slots.entries in
    let fs = c.join.new.slots.entries in
    let w = c.args.w in
    let address = c.args.address in
    let o : Slot = record { session = Some c.begin-session.result; next = None } in
    let old = ap (λ l. l ++ (number, c.begin-session.result) ∷ []) (present_relinked es fs c.join.ensures.same) in
    let new = ap (λ (x : SessionRecord). present es ++ (number, x) ∷ []) c.begin-session.ensures in
    let sessions : present c.add.new.slots.entries ≡ present es ++ (number, begun number address w) ∷ [] =
    ap present c.add.ensures.entries ∙ (present_added number o fs ∙ (old ∙ new)) in
    let room : ℕ = min (min (spare c.add.new.slots) (spare c.join.new.heads.firsts))
    (min (length inside.wakes - length c.add.new.slots.entries) (2 ^ 64 - 1 - number)) in
    (λ i. record {
      lines = inside.lines.items;
      opened = inside.opened;
      made = number;
      sessions = sessions i;
      spare = room;
    }) ∙ ap (λ (t : TableRecord). record t {
      made = number;
      sessions = t.sessions ++ (number, begun number address w) ∷ [];
      spare = room;
    }) c.self.view_is

pub returns-clause-keeps_room : goal.returns-clause-keeps_room
returns-clause-keeps_room c =
    let inside = c.self.inside in
    let same = length_relinked inside.slots.entries c.join.new.slots.entries c.join.ensures.same in
    let o : Slot = record { session = Some c.begin-session.result; next = None } in
    let more = ap length c.add.ensures.entries ∙ length-append c.join.new.slots.entries ((inside.made + 1, o) ∷ []) in
    omega (arith, ap (λ (t : TableRecord). t.spare) c.self.view_is, c.join.ensures.room, c.join.ensures.places, c.add.ensures.room, same, more)
