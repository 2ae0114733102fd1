use Rattle.house_model.specs.declared.event.Event.TheVariants.{Ask}
use Rattle.house_model.specs.Gate.{gate}
use Rattle.house_core.proofs.EndsLemmas.{ask_ends, stop_ends}
use Rattle.house_core.proofs.counting.ask.Goals as goal

pub returns-in-Stop : goal.returns-in-Stop
returns-in-Stop c = λ k world now.
    stop_ends k (Ask c.args.w) (gate k (Ask c.args.w)) c.in-Stop.reply c.args.world.now c.check.new.world (c.in-Stop.ensures.passes k world now)

pub returns-in-Holds : goal.returns-in-Holds
returns-in-Holds c = λ k world now.
    let passes = c.in-Holds.ensures.passes k world now in
    ask_ends k (gate k (Ask c.args.w)) c.args.w c.in-Holds.conn c.in-Holds.session c.args.world.now c.check.new.world c.tell.new.world world passes.0 passes.1
    c.tell.ensures
