use Rattle.subscription_pairs.proofs.SideLemmas.{listed-outbound, opposite-outbound}
use Rattle.subscription_pairs.proofs.laws.sides_agree.Goals as goal

pub returns : goal.returns
returns c = record { opposite = opposite-outbound; listed = listed-outbound }
