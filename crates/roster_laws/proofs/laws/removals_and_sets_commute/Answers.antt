use Rattle.roster_laws.proofs.EffectLemmas.{either_order}
use Rattle.roster_laws.proofs.laws.removals_and_sets_commute.Goals as goal

pub returns : goal.returns
returns c ua ub owner contacts k who sessions st = either_order ua ub owner contacts who sessions st k
