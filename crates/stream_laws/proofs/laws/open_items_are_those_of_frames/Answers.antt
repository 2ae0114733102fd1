use Rattle.stream_laws.proofs.OpenGrammar.{open_by_grammar, open_by_frames}
use Rattle.stream_laws.proofs.laws.open_items_are_those_of_frames.Goals as goal

pub returns-clause-grammar : goal.returns-clause-grammar
returns-clause-grammar c = λ r bytes h. open_by_grammar r bytes h

pub returns-clause-frames : goal.returns-clause-frames
returns-clause-frames c = λ r bytes h. open_by_frames r bytes h
