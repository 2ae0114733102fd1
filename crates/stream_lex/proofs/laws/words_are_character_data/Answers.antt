use Rattle.stream_lex.proofs.WordsLaw.{words-to, words-from}
use Rattle.stream_lex.proofs.laws.words_are_character_data.Goals as goal

pub returns-clause-only : goal.returns-clause-only
returns-clause-only c = words-to

pub returns-clause-all : goal.returns-clause-all
returns-clause-all c = words-from
