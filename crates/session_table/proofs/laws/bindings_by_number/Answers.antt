use Rattle.std.proofs.Common.{◌+◌}
use Rattle.session_table.specs.Sessions.{begun}
use Rattle.session_table.proofs.NumberLemmas.{lookup_added}
use Rattle.session_table.proofs.laws.bindings_by_number.Goals as goal

pub returns : goal.returns
returns c = λ w n address t rises. lookup_added n 0 t.made (begun (t.made + 1) address w) t.sessions rises
