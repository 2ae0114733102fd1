use Rattle.stream_laws.proofs.ItemListLemmas.{items_are, only_items, one_list}
use Rattle.stream_laws.proofs.calls.items_come_in_order.Goals as goal

pub returns-clause-brought : goal.returns-clause-brought
returns-clause-brought c = λ l bytes. items_are l bytes

pub returns-clause-only : goal.returns-clause-only
returns-clause-only c = λ l bytes items are. only_items l bytes items are

pub returns-clause-one : goal.returns-clause-one
returns-clause-one c = λ l bytes xs ys are too. one_list l bytes xs ys are too
