use Rattle.house_model.proofs.StayVerdicts.{gapless, within}
use Rattle.house_model.proofs.laws.stays_are_gapless.Goals as goal

pub returns-clause-gapless : goal.returns-clause-gapless
returns-clause-gapless c = gapless

pub returns-clause-within : goal.returns-clause-within
returns-clause-within c o h i starts = within o h starts i
