use Rattle.replay_script.proofs.StanzaTexts.{text_read, text_taken}
use Rattle.replay_script.proofs.laws.stanza_texts_are_elements_of_the_grammar.Goals as goal

pub returns-clause-read : goal.returns-clause-read
returns-clause-read c = λ xml e h. text_read xml e h

pub returns-clause-all : goal.returns-clause-all
returns-clause-all c = λ xml e is. text_taken xml e is
