use Rattle.std.proofs.Common.{◌≡◌}
use Rattle.session_table.specs.Indexes.{present}
use Rattle.session_table.specs.Tables.{number_at}
use Rattle.session_table.proofs.users.find_at.Given as goal

abbrev pub invariant-loop-number : goal.invariant-loop-number
invariant-loop-number l = record {
  can_next : (goal.iterator-loop-number).can_next l.number-iterator;
  is_finite : (goal.iterator-loop-number).is_finite l.number-iterator;
  rest : number_at l.address l.number-iterator ≡ number_at l.fn.address (present l.fn.slots.entries);
}
