use Rattle.stream_laws.proofs.Waiting.{item_waits}
use Rattle.stream_laws.proofs.HandedOut.{item_given}
use Rattle.stream_laws.proofs.Faultless.{faultless_goes}
use Rattle.stream_laws.proofs.laws.items_are_those_of_the_grammar.Goals as goal

pub returns-clause-found : goal.returns-clause-found
returns-clause-found c = λ l bytes b i none e. item_waits l bytes b i (faultless_goes l _ none) e

pub returns-clause-all : goal.returns-clause-all
returns-clause-all c = λ l bytes b i none e. item_given l bytes b i (faultless_goes l _ none) e
