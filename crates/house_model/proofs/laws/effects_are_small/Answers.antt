use Rattle.house_model.proofs.SmallLemmas.{departure_small, stanza_small}
use Rattle.house_model.proofs.laws.effects_are_small.Goals as goal

pub returns-clause-stanza : goal.returns-clause-stanza
returns-clause-stanza c = stanza_small

pub returns-clause-departure : goal.returns-clause-departure
returns-clause-departure c = departure_small
