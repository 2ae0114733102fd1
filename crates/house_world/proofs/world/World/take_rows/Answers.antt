use Rattle.std.proofs.Common.{[], ◌∙◌, arith}
use Rattle.house_world.specs.Readiness.{HasPlaces}
use Rattle.house_world.proofs.DidLemmas.{did_then}
use Rattle.house_world.proofs.RowLemmas.{all_taken, one_taken}
use Rattle.house_world.proofs.world.World.take_rows.Goals as goal

pub returns-in_err-take_row-clause-same : goal.returns-in_err-take_row-clause-same
returns-in_err-take_row-clause-same c =
    did_then [] [] 0 0 c.args.self.now c.loop-effect.self c.take_row.new.self c.loop-effect.invariant.same c.take_row.ensures.same

pub loop-effect-preserved : goal.loop-effect-preserved
loop-effect-preserved c = record {
  tied = c.take_row.ensures.same.tied;
  rows = one_taken (HasPlaces c.args.effects.now c.loop-effect.self.archives) (HasPlaces c.args.effects.now c.take_row.new.self.archives)
      c.args.effects.now c.loop-effect.effect-index c.effect-item.result c.effect-item.result
      c.loop-effect-test.true c.effect-item.is c.take_row.ensures.keeps c.loop-effect.invariant.rows c.in_ok-take_row.ensures.row;
  same = did_then [] [] 0 0 c.args.self.now c.loop-effect.self c.take_row.new.self c.loop-effect.invariant.same c.take_row.ensures.same;
  table = c.take_row.ensures.table ∙ c.loop-effect.invariant.table;
  book = c.take_row.ensures.book ∙ c.loop-effect.invariant.book;
  archives = c.take_row.ensures.archives ∙ c.loop-effect.invariant.archives;
}

pub returns-clause-rows : goal.returns-clause-rows
returns-clause-rows c =
    all_taken (HasPlaces c.args.effects.now c.loop-effect.self.archives) c.args.effects.now c.loop-effect.effect-index
    (omega (arith, c.loop-effect-test.false)) c.loop-effect.invariant.rows
