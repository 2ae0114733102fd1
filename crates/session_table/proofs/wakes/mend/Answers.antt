use Rattle.std.proofs.Common.{◌<◌, ◌+◌, ◌*◌, ◌/◌, length, arith, ◌∙◌}
use Rattle.std.proofs.lemmas.List.{drop-set-lt, length-set}
use Rattle.session_table.proofs.WakeLemmas.{wrote_node}
use Rattle.session_table.proofs.wakes.mend.Goals as goal

pub loop-at-smaller : goal.loop-at-smaller
loop-at-smaller c =
    let some : 0 < c.loop-at.at = omega (arith, c.loop-at-test.true) in
    let fewer : c.loop-at.at / 2 < c.loop-at.at = omega (arith, some) in
    fewer

pub loop-at-preserved : goal.loop-at-preserved
loop-at-preserved c =
    let before = c.loop-at.invariant in
    let nodes = c.loop-at.nodes in
    let at = c.loop-at.at in
    let least = c.sooner-least.result in
    let within : 2 * at + 1 < length nodes = omega (arith, before.low, before.wide, c.requires.below) in
    record {
      low = omega (arith, before.low);
      wide = length-set nodes at least ∙ before.wide;
      tree = wrote_node nodes at least c.loop-at-test.true within before.tree c.sooner-least.ensures;
      places = λ half most. drop-set-lt half nodes at least (omega (arith, most, before.wide, within)) ∙ before.places half most;
    }
