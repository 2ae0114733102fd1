use Rattle.std.proofs.Common.{refl}
use Rattle.conn_serve.proofs.Listening.{hears_more, hears_no_more}
use Rattle.conn_serve.proofs.Turning.{rests_here}
use Rattle.conn_serve.proofs.listen.hear_on.Goals as goal

pub returns-then-is_empty-clause-turned : goal.returns-then-is_empty-clause-turned
returns-then-is_empty-clause-turned c = λ o p owed tape turns moments drawn faults ends dice at.
    (rests_here o _ p _ _ owed at, c.if-is_empty.ensures.none refl, c.requires)

pub returns-in-Ok-clause-turned : goal.returns-in-Ok-clause-turned
returns-in-Ok-clause-turned c = λ o p owed tape turns moments drawn faults ends dice at.
    hears_more o p _ _ owed _ _ _ _ at c.requires (c.if-is_empty.ensures.some refl) c.moment-moment.ensures c.in-Ok.ensures

pub returns-in-Err-clause-turned : goal.returns-in-Err-clause-turned
returns-in-Err-clause-turned c = λ o p owed tape turns moments drawn faults ends dice at.
    hears_no_more o p _ _ owed _ _ at c.requires c.moment-moment.ensures
