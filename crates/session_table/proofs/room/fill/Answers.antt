use Rattle.std.proofs.Common.{◌≡◌, ◌<◌, ◌++◌, ◌∷◌, [], length, set, append_assoc, length-append, arith, sym, ap, subst, ◌∙◌}
use Rattle.std.proofs.lemmas.List.{length-set}
use Rattle.session_table.specs.Indexes.{AreWakes, wake_in}
use Rattle.session_table.proofs.MomentLemmas.{wakes_more}
use Rattle.session_table.proofs.room.fill.Goals as goal

pub loop-number-preserved : goal.loop-number-preserved
loop-number-preserved c =
    let before = c.loop-number.invariant in
    let n = c.in-Some._number.now in
    let o = c.in-Some.slot.now in
    let done = before.done in
    let ms = c.loop-number.wakes in
    let took = c.in-Some.ensures.steps in
    let all : done ++ (n, o) ∷ c.next.new.self ≡ c.args.slots.now.entries = sym (ap (λ l. done ++ l) took) ∙ before.rest in
    let room : length done < length ms =
    omega (arith, before.wide, c.requires.room, ap length all, length-append done ((n, o) ∷ c.next.new.self)) in
    let written : set ms (length done) (wake_in o.session) ≡ c.set.new.self =
    sym (c.set.ensures ∙ ((λ i. set ms (before.at i) (c.wake.ensures i)))) in
    record {
      can_next = tt;
      is_finite = tt;
      done = done ++ (n, o) ∷ [];
      moments = subst (AreWakes (done ++ (n, o) ∷ [])) written (wakes_more done n o ms before.moments room);
      rest = append_assoc done ((n, o) ∷ []) c.next.new.self ∙ all;
      at = omega (arith, before.at, length-append done ((n, o) ∷ []));
      wide = ap length c.set.ensures ∙ (length-set ms c.loop-number.place c.wake.result ∙ before.wide);
    }
