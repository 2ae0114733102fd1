use Rattle.stream_laws.proofs.JoinedCalls.{called_together, taken_together}
use Rattle.stream_laws.proofs.calls.calls_follow_one_another.Goals as goal

pub returns-clause-called : goal.returns-clause-called
returns-clause-called c = λ l first second items later s t u one two. called_together first l second items later s t u one two

pub returns-clause-taken : goal.returns-clause-taken
returns-clause-taken c = λ first second. taken_together first second
