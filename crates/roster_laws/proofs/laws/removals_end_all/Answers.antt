use Rattle.roster_laws.proofs.EndLemmas.{removal_ends}
use Rattle.roster_laws.proofs.laws.removals_end_all.Goals as goal

pub returns : goal.returns
returns c domain a b ua ub k other ma mb are = removal_ends domain a b ua ub k ma mb are other
