use Rattle.std.proofs.Common.{◌≡◌, ◌^◌, ◌<◌, ◌+◌, ◌*◌, ◌/◌, ℕ, List, Option, length, set, drop, arith, sym, ap, ◌∙◌}
use Rattle.std.proofs.lemmas.List.{length-drop, length-set}
use Rattle.session_table.proofs.WakeLemmas.{refilled, set_place}
use Rattle.session_table.proofs.wakes.Wakes.set.Goals as goal

pub returns : goal.returns
returns c =
    let inside = c.self.inside in
    let nodes = inside.nodes.items in
    let place = c.args.place in
    let m = c.args.moment in
    let half : ℕ = 2 ^ inside.levels in
    let at : ℕ = c.len.result / 2 + place in
    let within : place < length (drop half nodes) = omega (arith, c.requires, ap length c.self.view_is) in
    let some : 0 < length nodes = omega (arith, within, length-drop half nodes) in
    let wide : length nodes ≡ 2 * half = c.self.invariant.0 some in
    let many : c.len.result ≡ length nodes = c.len.ensures ∙ inside.nodes.ok.0 in
    let written = c.deref_mut.ensures.value in
    let long : length c.mend.new.nodes ≡ length nodes = c.mend.ensures.length ∙ (ap length written ∙ length-set nodes at m) in
    let back = refilled inside.nodes.len c.mend.new.nodes (set nodes at m) (long ∙ sym inside.nodes.ok.0) in
    let same = c.mend.ensures.places half (omega (arith, wide, ap length written, length-set nodes at m)) ∙ ap (drop half) written in
    ap (drop half) back ∙ set_place nodes c.mend.new.nodes half at place m wide (omega (arith, many, wide)) same
    ∙ ap (λ (l : List (Option ℕ)). set l place m) c.self.view_is
