use Rattle.std.proofs.Common.{◌≡◌, ℕ, Option, Some, true, cond, is_some, nat_eq, arith, sym, ap, subst, ◌∙◌}
use Rattle.std.proofs.lemmas.Option.{none-some as none_some}
use Rattle.std.specs.Map.{lookup}
use Rattle.indexmap.specs.IndexMap.{set_value_at}
use Rattle.session_table.specs.declared.slots.Slot.{Slot}
use Rattle.session_table.specs.Indexes.{AreChained, AreRelinked, IsAt, Slots, emptied, has_hash, leading_to}
use Rattle.session_table.proofs.ChainLemmas.{first_low}
use Rattle.session_table.proofs.LinkLemmas.{at_else, before_it, chained_bridged, chained_without_first}
use Rattle.session_table.proofs.PlaceLemmas.{one_slot, relinked_none, relinked_set, same_next}
use Rattle.session_table.proofs.chains.bridge.Goals as goal

pub returns-then-eq-clause-chained : goal.returns-then-eq-clause-chained
returns-then-eq-clause-chained c = λ made p o had at.
    let es = c.args.slots.now.entries in
    let heads = c.args.heads.now.firsts.entries in
    let key = c.args.heads.now.key in
    let h = c.args.hash in
    let there = c.requires.there in
    let one : o ≡ there.1 = one_slot p there.0 c.args.number o there.1 made es had.climbs at there.2 in
    let own : has_hash key h o.session ≡ true = ap (λ (x : Slot). has_hash key h x.session) one ∙ there.3 in
    let next : o.next ≡ c.args.next = ap (λ (x : Slot). x.next) one ∙ there.4 in
    let head : lookup (nat_eq h) heads ≡ Some c.args.number =
    sym (c.copied.ensures ∙ c.get.ensures.value) ∙ same_next c.copied.result (Some c.args.number) (sym c.if-eq.ensures) in
    chained_without_first key h c.args.number p made o es heads c.point.new.firsts.entries had at own (sym (had.firsts h) ∙ head)
    (λ q. c.point.ensures.firsts (ap is_some head) q ∙ ap (λ (n : Option ℕ). cond (nat_eq h q) n (lookup (nat_eq q) heads)) (sym next))

pub returns-then-eq-clause-same : goal.returns-then-eq-clause-same
returns-then-eq-clause-same c = relinked_none c.args.slots.now.entries

pub returns-in-Some-clause-chained : goal.returns-in-Some-clause-chained
returns-in-Some-clause-chained c = λ made p o had at.
    let es = c.args.slots.now.entries in
    let key = c.args.heads.now.key in
    let h = c.args.hash in
    let there = c.requires.there in
    let link = c.in-Some.ensures in
    let one : o ≡ there.1 = one_slot p there.0 c.args.number o there.1 made es had.climbs at there.2 in
    let own : has_hash key h o.session ≡ true = ap (λ (x : Slot). has_hash key h x.session) one ∙ there.3 in
    let next : o.next ≡ c.args.next = ap (λ (x : Slot). x.next) one ∙ there.4 in
    let entries = ap (λ (n : Option ℕ). set_value_at es c.in-Some.place (leading_to n link.1)) next
    ∙ sym (c.lead.ensures.entries link.0 link.1 link.2) in
    subst (λ (fs : Slots). AreChained key (set_value_at fs p (emptied o)) c.args.heads.now.firsts.entries made) entries
    (chained_bridged key h c.args.number p made o es c.args.heads.now.firsts.entries c.in-Some.place link.0 link.1 had at own link.2 link.3 link.4)

pub returns-in-Some-clause-there : goal.returns-in-Some-clause-there
returns-in-Some-clause-there c = λ p o at.
    let es = c.args.slots.now.entries in
    let had = c.requires.chained in
    let link = c.in-Some.ensures in
    let low = before_it c.args.heads.now.key c.args.hash c.args.number link.0 c.in-Some.place link.1 had.0 es had.1.climbs had.1.linked link.2 link.3 link.4 in
    subst (IsAt p c.args.number o) (sym (c.lead.ensures.entries link.0 link.1 link.2))
    (at_else p c.in-Some.place c.args.number link.0 o link.1 (leading_to c.args.next link.1) es at link.2 (λ e. omega (arith, low, e)))

pub returns-in-Some-clause-same : goal.returns-in-Some-clause-same
returns-in-Some-clause-same c =
    let link = c.in-Some.ensures in
    let es = c.args.slots.now.entries in
    subst (AreRelinked es) (sym (c.lead.ensures.entries link.0 link.1 link.2))
    (relinked_set c.in-Some.place link.0 link.1 (leading_to c.args.next link.1) es (λ i. link.1.session) link.2)

pub returns-in_default-clause-chained : goal.returns-in_default-clause-chained
returns-in_default-clause-chained c = λ made p o had at.
    let es = c.args.slots.now.entries in
    let there = c.requires.there in
    let low = first_low c.args.heads.now.key c.args.hash there.0 c.args.number there.1 0 made es had.climbs there.2 there.3 in
    absurd (none_some low.0 (sym c.in_default.ensures ∙ low.1))

pub returns-in_default-clause-same : goal.returns-in_default-clause-same
returns-in_default-clause-same c = relinked_none c.args.slots.now.entries
