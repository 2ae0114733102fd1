use Rattle.roster_laws.proofs.TellLemmas.{sides_told}
use Rattle.roster_laws.proofs.laws.rosters_tell_the_pairs.Goals as goal

pub returns : goal.returns
returns c domain a b ua ub k = sides_told domain k a b ua ub
