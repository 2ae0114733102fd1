use Rattle.std.proofs.Common.{◌≡◌, ◌+◌, ◌*◌, ◌/◌, ◌-◌, ◌^◌, ℕ, cond, length, Some, arith, sym, subst, ap, ◌∙◌}
use Rattle.session_table.specs.Sessions.{has_come}
use Rattle.session_table.specs.Waking.{node}
use Rattle.session_table.proofs.WakeLemmas.{IsFirstAt, first_below, first_place, level_within, next_level}
use Rattle.std.proofs.lemmas.Nat.{pow_pos}
use Rattle.session_table.proofs.wakes.descend.Goals as goal

pub child-at-requires : goal.child-at-requires
child-at-requires c =
    let low = c.loop-level.invariant.first.below in
    let wide = level_within c.loop-level._level c.args.levels c.loop-level-test.true in
    omega (arith, low, wide, c.requires.length)

pub loop-level-preserved : goal.loop-level-preserved
loop-level-preserved c =
    let k = c.loop-level._level in
    let nodes = c.args.nodes.now in
    let at = c.loop-level.at in
    let now = c.args.now in
    let wide = level_within k c.args.levels c.loop-level-test.true in
    let first = first_below now nodes (2 ^ k) c.loop-level.at c.requires.tree (omega (arith, wide, c.requires.length)) (pow_pos k)
    c.loop-level.invariant.first in
    record {
      first = subst (λ (to : ℕ). IsFirstAt now nodes (2 ^ (k + 1)) to) (sym c.child-at.ensures)
          (subst (λ (low : ℕ). IsFirstAt now nodes low (cond (has_come now (node nodes (2 * at))) (2 * at) (2 * at + 1))) (sym (next_level k)) first);
    }

pub returns : goal.returns
returns c =
    let k = c.loop-level._level in
    let last : k ≡ c.args.levels = omega (arith, c.loop-level-test.false, c.loop-level.auto._level-end) in
    let half : 2 ^ c.args.levels ≡ length c.args.nodes.now / 2 = omega (arith, c.requires.length) in
    first_place c.args.now c.args.nodes.now (2 ^ c.args.levels) c.loop-level.at c.requires.length
    (subst (λ (n : ℕ). IsFirstAt c.args.now c.args.nodes.now (2 ^ n) c.loop-level.at) last c.loop-level.invariant.first)
    ∙ ap (λ (n : ℕ). Some (c.loop-level.at - n)) half
