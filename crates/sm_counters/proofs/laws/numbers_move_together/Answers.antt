use Rattle.sm_counters.proofs.CountLaws.{number-moved, number-wrapped}
use Rattle.sm_counters.proofs.laws.numbers_move_together.Goals as goal

pub returns-clause-moved : goal.returns-clause-moved
returns-clause-moved c = number-moved

pub returns-clause-wrapped : goal.returns-clause-wrapped
returns-clause-wrapped c = number-wrapped
