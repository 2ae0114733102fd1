use Rattle.std.proofs.Common.{[]}
use Rattle.house_world.proofs.DidLemmas.{did_then}
use Rattle.house_world.proofs.ReadyLemmas.{ready_step}
use Rattle.house_world.proofs.world.World.take_few.Goals as goal

pub returns-in_err-take_for-clause-same : goal.returns-in_err-take_for-clause-same
returns-in_err-take_for-clause-same c =
    did_then [] [] 0 0 c.args.self.now c.loop-effect.self c.take_for.new.self
    c.loop-effect.invariant.same c.take_for.ensures.same

pub loop-effect-preserved : goal.loop-effect-preserved
loop-effect-preserved c = record {
  tied = c.take_for.ensures.same.tied;
  ready = ready_step c.args.effects.now c.loop-effect.effect-index c.effect-item.result c.effect-item.result
      c.loop-effect.self.table c.take_for.new.self.table c.loop-effect-test.true c.effect-item.is
      c.in_ok-take_for.ensures.room c.take_for.ensures.keeps c.loop-effect.invariant.ready;
  same = did_then [] [] 0 0 c.args.self.now c.loop-effect.self c.take_for.new.self
      c.loop-effect.invariant.same c.take_for.ensures.same;
  held = λ w r was. c.take_for.ensures.held w r (c.loop-effect.invariant.held w r was);
}
