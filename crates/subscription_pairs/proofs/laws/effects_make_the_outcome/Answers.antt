use Rattle.subscription_pairs.proofs.EffectLemmas.{after-effects-mine, after-effects-theirs}
use Rattle.subscription_pairs.proofs.laws.effects_make_the_outcome.Goals as goal

pub returns : goal.returns
returns c = record { mine = after-effects-mine; theirs = after-effects-theirs }
