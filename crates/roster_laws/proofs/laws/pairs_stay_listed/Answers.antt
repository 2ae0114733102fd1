use Rattle.roster_laws.proofs.EndLemmas.{removed_listed}
use Rattle.roster_laws.proofs.StayLemmas.{none_listed, removal_listed, set_listed, subscription_listed}
use Rattle.roster_laws.proofs.laws.pairs_stay_listed.Goals as goal

pub returns-clause-empty : goal.returns-clause-empty
returns-clause-empty c = none_listed

pub returns-clause-subscription : goal.returns-clause-subscription
returns-clause-subscription c domain a b ua ub k form effects ma mb comes are = subscription_listed domain a b ua ub k ma mb are form effects comes

pub returns-clause-removal : goal.returns-clause-removal
returns-clause-removal c = removal_listed

pub returns-clause-set : goal.returns-clause-set
returns-clause-set c = set_listed

pub returns-clause-removed : goal.returns-clause-removed
returns-clause-removed c domain a b ua ub contacts k who sessions st w ma mb wants at are =
    removed_listed domain a b ua ub k ma mb are contacts who sessions st w wants at
