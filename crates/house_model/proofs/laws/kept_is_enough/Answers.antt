use Rattle.house_model.proofs.TurnLaws.{effects_kept, step_kept, reply_kept, text_kept, stands_on}
use Rattle.house_model.proofs.laws.kept_is_enough.Goals as goal

pub returns-clause-effects : goal.returns-clause-effects
returns-clause-effects c = effects_kept

pub returns-clause-step : goal.returns-clause-step
returns-clause-step c = step_kept

pub returns-clause-reply : goal.returns-clause-reply
returns-clause-reply c = reply_kept

pub returns-clause-text : goal.returns-clause-text
returns-clause-text c = text_kept

pub returns-clause-history : goal.returns-clause-history
returns-clause-history c = stands_on
