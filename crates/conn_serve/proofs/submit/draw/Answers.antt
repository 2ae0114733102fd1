use Rattle.std.proofs.Common.{◌≡◌, length, rules, refl}
use Rattle.conn_serve.proofs.Entering.{drew, is_no_dice}
use Rattle.conn_serve.proofs.submit.draw.Goals as goal

pub returns-in-Full-clause-turned : goal.returns-in-Full-clause-turned
returns-in-Full-clause-turned g c = λ o p ahead owed tape turns moments faults ends h ahead_is owes w was.
    let long : length c.fill.new.into ≡ 18 = search rules in
    drew o p c.fill.new.into c.args.flow.now c.gave.new.self ahead owed tape turns moments _ _ faults ends _ _ h ahead_is owes long w was c.gave.ensures
    c.in-Full.ensures.drawn c.in-Full.ensures.kept

pub returns-in-Failed-clause-turned : goal.returns-in-Failed-clause-turned
returns-in-Failed-clause-turned g c = λ o p ahead owed tape turns moments faults ends h ahead_is owes w was.
    is_no_dice o p c.args.flow.now c.moment.result tape turns moments _ _ faults ends _ _ h w was c.moment.ensures
    c.in-Failed.ensures.drawn c.in-Failed.ensures.kept (c.in-Failed.ensures.cause refl)
