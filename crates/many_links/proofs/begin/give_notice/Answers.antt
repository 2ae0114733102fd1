use Rattle.std.proofs.Common.{rules}
use Rattle.conn_serve.proofs.Turning.{short_of_memory}
use Rattle.many_links.proofs.Starting.{noticed, unsaid}
use Rattle.many_links.proofs.begin.give_notice.Goals as goal

pub returns-then-not-is_empty-clause-ended : goal.returns-then-not-is_empty-clause-ended
returns-then-not-is_empty-clause-ended c = λ o p a accounts at. unsaid o a p _ _ _ _ at (search rules) c.moment-moment.ensures

pub returns-in-Ok-clause-ended : goal.returns-in-Ok-clause-ended
returns-in-Ok-clause-ended c = λ o p a accounts at.
    noticed o a p _ _ _ _ c.in-Ok.want _ c.end_of.result _ at accounts c.in-Ok.ensures.wants c.end_of.ensures (search rules) c.moment.ensures

pub returns-in-Err-clause-ended : goal.returns-in-Err-clause-ended
returns-in-Err-clause-ended c = λ o p a accounts at. short_of_memory o a p _ _ _ _ at c.in-Err.ensures.going c.moment-moment.ensures
