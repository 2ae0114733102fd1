use Rattle.roster_laws.proofs.KeepLemmas.{none_kept, removal_kept, removed_kept, set_kept, subscription_kept}
use Rattle.roster_laws.proofs.laws.rosters_are_kept.Goals as goal

pub returns-clause-empty : goal.returns-clause-empty
returns-clause-empty c = none_kept

pub returns-clause-set : goal.returns-clause-set
returns-clause-set c = set_kept

pub returns-clause-subscription : goal.returns-clause-subscription
returns-clause-subscription c domain a ua ub k form effects is = subscription_kept domain a ua ub k form effects is.bare is.contacts

pub returns-clause-removal : goal.returns-clause-removal
returns-clause-removal c = removal_kept

pub returns-clause-removed : goal.returns-clause-removed
returns-clause-removed c = removed_kept
