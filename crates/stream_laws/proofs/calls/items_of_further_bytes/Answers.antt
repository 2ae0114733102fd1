use Rattle.stream_laws.proofs.OneItem.{next_brought, one_next}
use Rattle.stream_laws.proofs.calls.items_of_further_bytes.Goals as goal

pub returns-clause-brought : goal.returns-clause-brought
returns-clause-brought c = λ l before bytes. next_brought l before bytes

pub returns-clause-one : goal.returns-clause-one
returns-clause-one c = λ l before bytes xs ys p q. one_next l before bytes xs ys p q
