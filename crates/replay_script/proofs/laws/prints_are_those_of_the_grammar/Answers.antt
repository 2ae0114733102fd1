use Rattle.replay_script.proofs.Printing.{prints_are, only_prints}
use Rattle.replay_script.proofs.laws.prints_are_those_of_the_grammar.Goals as goal

pub returns-clause-printed : goal.returns-clause-printed
returns-clause-printed c = λ deeds. prints_are deeds

pub returns-clause-only : goal.returns-clause-only
returns-clause-only c = λ deeds out are. only_prints deeds out are
