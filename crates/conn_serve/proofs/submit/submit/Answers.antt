use Rattle.std.proofs.Common.{ap}
use Rattle.hall.specs.Desks.{turns_of}
use Rattle.conn_serve.proofs.Entering.{is_spent, no_frame, shorted, submitted}
use Rattle.conn_serve.proofs.submit.submit.Goals as goal

pub returns-in-Some-Ok-clause-turned : goal.returns-in-Some-Ok-clause-turned
returns-in-Some-Ok-clause-turned g c = λ o p ahead tape moments drawn faults ends dice h ahead_is owes w was line.
    let gives = rw c.in-Some-Ok.field-0-is at c.in-Some-Ok.ensures.gives in
    submitted o p c.args.event.now c.in-Some-Ok.reply gives.0 _ _ c.args.flow.now c.told.new.self ahead tape _ _ moments drawn faults ends dice
    h ahead_is owes w was c.told.ensures.state gives.1 gives.2.3

pub returns-in-Some-Err-NoMemory-clause-turned : goal.returns-in-Some-Err-NoMemory-clause-turned
returns-in-Some-Err-NoMemory-clause-turned g c = λ o p ahead tape moments drawn faults ends dice h ahead_is owes w was line.
    let gives = rw (c.in-Some-Err-NoMemory.field-0-is, c.in-Some-Err-NoMemory.field-0-0-is) at c.in-Some-Err-NoMemory.ensures.gives in
    shorted o p c.args.event.now gives.0 _ _ c.args.flow.now c.short.new.self ahead tape _ _ moments drawn faults ends dice
    h ahead_is owes gives.2.1 w was c.short.ensures gives.1 gives.2.0 gives.2.2.3

pub returns-in-Some-Err-Spent-clause-turned : goal.returns-in-Some-Err-Spent-clause-turned
returns-in-Some-Err-Spent-clause-turned g c = λ o p ahead tape moments drawn faults ends dice h ahead_is owes w was line.
    let gives = rw (c.in-Some-Err-Spent.field-0-is, c.in-Some-Err-Spent.field-0-0-is) at c.in-Some-Err-Spent.ensures.gives in
    is_spent o p c.args.event.now tape _ _ moments drawn faults ends dice w (ap (turns_of (g.D.Desk.line c.args.pass.now)) gives.2.1)

pub returns-in-None-clause-turned : goal.returns-in-None-clause-turned
returns-in-None-clause-turned g c = λ o p ahead tape moments drawn faults ends dice h ahead_is owes w was line.
    no_frame o p c.args.event.now c.args.flow.now c.moment.result tape _ _ moments drawn faults ends dice w was c.moment.ensures
    (ap (turns_of (g.D.Desk.line c.args.pass.now)) c.in-None.ensures.gives.1)
