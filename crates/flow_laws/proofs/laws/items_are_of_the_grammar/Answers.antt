use Rattle.flow_laws.proofs.Next.{all_bytes, next_item}
use Rattle.flow_laws.proofs.laws.items_are_of_the_grammar.Goals as goal

pub returns-clause-item : goal.returns-clause-item
returns-clause-item c = λ stream bytes i h. next_item bytes stream i h

pub returns-clause-bytes : goal.returns-clause-bytes
returns-clause-bytes c = λ stream bytes. all_bytes bytes stream
