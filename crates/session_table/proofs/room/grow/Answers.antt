use Rattle.std.proofs.Common.{◌≡◌, ℕ, ◌^◌, Option, None, length, arith, sym, ap, subst, ◌∙◌}
use Rattle.std.proofs.lemmas.List.{length-replicate}
use Rattle.session_table.specs.Indexes.{AreNone}
use Rattle.session_table.proofs.MomentLemmas.{none_yet}
use Rattle.session_table.proofs.PresentLemmas.{length_filled}
use Rattle.session_table.proofs.room.grow.Goals as goal

pub fill-requires-clause-none : goal.fill-requires-clause-none
fill-requires-clause-none c = subst AreNone (sym c.in_ok-places.ensures) (none_yet (2 ^ c.in-Some.levels))

pub fill-requires-clause-room : goal.fill-requires-clause-room
fill-requires-clause-room c =
    let es = c.args.slots.now.entries in
    let wide : length c.in_ok-places.places ≡ 2 ^ c.in-Some.levels =
    ap length c.in_ok-places.ensures ∙ length-replicate {A = Option ℕ} (2 ^ c.in-Some.levels) None in
    let many : length c.clear.new.slots.entries ≡ c.args.there =
    ap length c.clear.ensures.entries ∙ (length_filled es ∙ sym c.requires) in
    omega (arith, wide, many, c.in-Some.ensures.1)

pub returns-clause-places : goal.returns-clause-places
returns-clause-places c =
    let es = c.args.slots.now.entries in
    let wide : length c.in_ok-places.places ≡ 2 ^ c.in-Some.levels =
    ap length c.in_ok-places.ensures ∙ length-replicate {A = Option ℕ} (2 ^ c.in-Some.levels) None in
    let many : length c.clear.new.slots.entries ≡ c.args.there =
    ap length c.clear.ensures.entries ∙ (length_filled es ∙ sym c.requires) in
    omega (arith, wide, many, c.in-Some.ensures.1, c.fill.ensures.length)
