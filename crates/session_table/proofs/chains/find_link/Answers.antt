use Rattle.std.proofs.Common.{ℕ, Option, length, sym, subst, ◌<◌, ◌∙◌}
use Rattle.session_table.specs.Indexes.{from}
use Rattle.session_table.proofs.ChainLemmas.{next_high, not_on_way, seen_on_way, way_begins, way_ends, way_goes_on}
use Rattle.session_table.proofs.PlaceLemmas.{left_less, other_next, same_next}
use Rattle.session_table.proofs.chains.find_link.Goals as goal

pub loop-next-init : goal.loop-next-init
loop-next-init c =
    let chained = c.requires.chained in
    let es = c.args.slots.now.entries in
    let h = c.args.hash in
    record {
      way = way_begins c.args.heads.now.key h c.args.until chained.0 es c.copied-next.result chained.1.climbs c.requires.ends
          (c.copied-next.ensures ∙ (c.get.ensures.value ∙ chained.1.firsts h));
    }

pub returns-in_default-visit : goal.returns-in_default-visit
returns-in_default-visit c =
    let chained = c.requires.chained in
    let n = c.in-Some.number in
    absurd (not_on_way c.args.heads.now.key c.args.hash n c.args.until chained.0 c.args.slots.now.entries c.loop-next.next chained.1.climbs
    c.in-Some.is c.loop-next.invariant.way c.in_default-visit.ensures.none)

pub returns-then-eq : goal.returns-then-eq
returns-then-eq c =
    let chained = c.requires.chained in
    let n = c.in-Some.number in
    let es = c.args.slots.now.entries in
    let at = c.in-Some-visit.ensures.found in
    let seen = seen_on_way c.args.heads.now.key c.args.hash n c.in-Some-visit.place c.args.until c.in-Some-visit.slot.now chained.0 es c.loop-next.next
    chained.1.climbs c.in-Some.is c.loop-next.invariant.way at in
    (n, c.in-Some-visit.slot.now, at, seen.0, same_next c.in-Some-visit.slot.now.next c.args.until (sym c.if-eq.ensures))

pub loop-next-smaller : goal.loop-next-smaller
loop-next-smaller c =
    let chained = c.requires.chained in
    let n = c.in-Some.number in
    let es = c.args.slots.now.entries in
    let o = c.in-Some-visit.slot.now in
    let p = c.in-Some-visit.place in
    let at = c.in-Some-visit.ensures.found in
    let seen = seen_on_way c.args.heads.now.key c.args.hash n p c.args.until o chained.0 es c.loop-next.next
    chained.1.climbs c.in-Some.is c.loop-next.invariant.way at in
    let less = left_less p n o 0 chained.0 es chained.1.climbs at o.next
    (next_high c.args.heads.now.key c.args.hash c.args.until chained.0 es p n o chained.1.climbs chained.1.linked at seen.0) in
    subst (λ (next : Option ℕ). length (from o.next es) < length (from next es)) (sym c.in-Some.is) less

pub loop-next-preserved : goal.loop-next-preserved
loop-next-preserved c =
    let chained = c.requires.chained in
    let n = c.in-Some.number in
    let es = c.args.slots.now.entries in
    let o = c.in-Some-visit.slot.now in
    let p = c.in-Some-visit.place in
    let at = c.in-Some-visit.ensures.found in
    let seen = seen_on_way c.args.heads.now.key c.args.hash n p c.args.until o chained.0 es c.loop-next.next
    chained.1.climbs c.in-Some.is c.loop-next.invariant.way at in
    record {
      way = way_goes_on c.args.heads.now.key c.args.hash c.args.until chained.0 es p n o chained.1.climbs chained.1.linked at seen.0 c.requires.ends seen.1
          (other_next o.next c.args.until (sym c.if-eq.ensures));
    }

pub returns : goal.returns
returns c = way_ends c.args.heads.now.key c.args.hash c.args.until c.args.slots.now.entries c.loop-next.next c.in_default.is c.loop-next.invariant.way
