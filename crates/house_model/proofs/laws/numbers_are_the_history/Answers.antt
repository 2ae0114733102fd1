use Rattle.house_model.proofs.Turns.{state_turns, state_opened, workers_after}
use Rattle.house_model.proofs.laws.numbers_are_the_history.Goals as goal

pub returns-clause-turns : goal.returns-clause-turns
returns-clause-turns c = state_turns

pub returns-clause-opened : goal.returns-clause-opened
returns-clause-opened c = state_opened

pub returns-clause-workers : goal.returns-clause-workers
returns-clause-workers c = workers_after
