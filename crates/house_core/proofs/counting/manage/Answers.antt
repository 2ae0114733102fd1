use Rattle.std.proofs.Common.{refl}
use Rattle.house_model.specs.declared.event.Event.TheVariants.{Enable}
use Rattle.house_model.specs.declared.reply.Reply.TheVariants.{Done}
use Rattle.house_model.specs.Gate as model
use Rattle.house_model.specs.Gate.{gate}
use Rattle.house_core.proofs.EndsLemmas.{enable_ends, stop_ends, ends_by}
use Rattle.house_core.proofs.counting.manage.Goals as goal

pub returns-in-Stop : goal.returns-in-Stop
returns-in-Stop c = λ k world now.
    let e = Enable c.args.w c.args.resume c.args.dice in
    stop_ends k e (gate k e) c.in-Stop.reply c.args.world.now c.check.new.world (c.in-Stop.ensures.passes k world now)

pub returns-in-Holds : goal.returns-in-Holds
returns-in-Holds c = λ k world now.
    let e = Enable c.args.w c.args.resume c.args.dice in
    let passes = c.in-Holds.ensures.passes k world now in
    enable_ends k (gate k e) c.args.w c.in-Holds.conn c.in-Holds.session c.args.resume c.args.dice c.args.world.now c.check.new.world c.start.new.world world
    passes.0 passes.1 c.start.ensures

pub returns-in-Knows : goal.returns-in-Knows
returns-in-Knows c = λ k world now.
    let e = Enable c.args.w c.args.resume c.args.dice in
    let passes = c.in-Knows.ensures.passes k world now in
    ends_by k e (gate k e) (model.Knows c.in-Knows.conn c.in-Knows.user) 0 Done c.args.world.now c.check.new.world c.say.new.self passes.0 passes.1
    (record { answer = refl; did = c.say.ensures })

pub start-requires-clause-small : goal.start-requires-clause-small
start-requires-clause-small c = c.check.ensures.few 18446744073709551614 c.requires.small
