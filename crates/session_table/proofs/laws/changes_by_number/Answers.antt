use Rattle.session_table.proofs.NumberLemmas.{lookup_changed}
use Rattle.session_table.proofs.laws.changes_by_number.Goals as goal

pub returns : goal.returns
returns c = λ s n change t. lookup_changed s n change t.sessions
