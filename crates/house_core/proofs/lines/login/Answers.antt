use Rattle.std.proofs.Common.{length}
use Rattle.house_model.specs.declared.event.Event.TheVariants.{Login}
use Rattle.house_model.specs.Gate.{gate}
use Rattle.house_core.proofs.LoginLemmas.{stop_enters, waits_enters}
use Rattle.house_core.proofs.lines.login.Goals as goal

pub returns-in-Stop : goal.returns-in-Stop
returns-in-Stop c = λ k world now users.
    let e = Login c.args.w c.args.user.now in
    stop_enters k e (gate k e) (length c.args.users.now) c.in-Stop.reply c.args.world.now c.check.new.world (c.in-Stop.ensures.passes k world now)

pub returns-in-Waits : goal.returns-in-Waits
returns-in-Waits c = λ k world now users.
    let e = Login c.args.w c.args.user.now in
    let passes = c.in-Waits.ensures.passes k world now in
    waits_enters k c.args.w c.args.users.now c.args.user.now (gate k e) c.log_among.result c.args.world.now c.check.new.world c.log_among.new.world users
    passes.0 passes.1 c.log_among.ensures
