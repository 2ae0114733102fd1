use Rattle.std.proofs.Common.{◌≡◌, ◌*◌, ◌^◌, ◌<◌, None, false, length, position, arith, sym, ap, ◌∙◌}
use Rattle.std.proofs.Math.Nat.{pos_of_ne-zero}
use Rattle.std.proofs.lemmas.Bool.{eqb-false}
use Rattle.std.proofs.lemmas.List.{get_or_default}
use Rattle.std.proofs.lemmas.Nat.{pow_pos}
use Rattle.std.specs.Vec.{vec_len}
use Rattle.session_table.specs.Sessions.{has_come}
use Rattle.session_table.specs.Waking.{node}
use Rattle.session_table.proofs.WakeLemmas.{no_place}
use Rattle.session_table.proofs.wakes.Wakes.first.Goals as goal

pub returns-then-not-has_come : goal.returns-then-not-has_come
returns-then-not-has_come c =
    let inside = c.self.inside in
    let nodes = inside.nodes.items in
    let now = c.args.now in
    let some : 0 < length nodes =
    pos_of_ne-zero (λ none. eqb-false (vec_len inside.nodes) 0 (sym c.if-is_empty.ensures) (inside.nodes.ok.0 ∙ none)) in
    let first : has_come now c.index.result.now ≡ false = sym c.if-not-has_come.ensures in
    let wide : length nodes ≡ 2 * 2 ^ inside.levels = c.self.invariant.0 some in
    let ahead : has_come now (node nodes 1) ≡ false =
    ap (has_come now) (get_or_default nodes 1 None c.index.result.now (omega (arith, wide, pow_pos inside.levels)) ∙ sym c.index.ensures) ∙ first in
    sym (no_place now nodes (2 ^ inside.levels) (c.self.invariant.0 some) (pow_pos inside.levels) c.self.invariant.1 ahead)
    ∙ ap (position (has_come now)) c.self.view_is
