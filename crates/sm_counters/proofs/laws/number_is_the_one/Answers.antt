use Rattle.sm_counters.proofs.CountLaws.{number-is, number-none, number-some}
use Rattle.sm_counters.proofs.laws.number_is_the_one.Goals as goal

pub returns-clause-found : goal.returns-clause-found
returns-clause-found c = λ a q h n narrow. (number-some a q h n, number-is a q h n narrow)

pub returns-clause-absent : goal.returns-clause-absent
returns-clause-absent c = number-none
