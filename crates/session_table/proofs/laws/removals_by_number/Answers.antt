use Rattle.session_table.proofs.NumberLemmas.{lookup_removed}
use Rattle.session_table.proofs.laws.removals_by_number.Goals as goal

pub returns : goal.returns
returns c = λ s n t rises. lookup_removed s n 0 t.made t.sessions rises
