use Rattle.subscription_pairs.proofs.EffectLemmas.{after-removal}
use Rattle.subscription_pairs.proofs.laws.removal_ends_all.Goals as goal

pub returns : goal.returns
returns c = after-removal
