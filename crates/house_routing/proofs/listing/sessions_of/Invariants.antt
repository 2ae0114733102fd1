use Rattle.std.proofs.Common.{◌≡◌, ◌++◌, Some}
use Rattle.session_table.specs.Tables.{of_user}
use Rattle.house_routing.proofs.ListedLemmas.{is_any, listed}
use Rattle.house_routing.proofs.listing.sessions_of.Given as goal

abbrev pub invariant-loop-number : goal.invariant-loop-number
invariant-loop-number l = record {
  can_next : (goal.iterator-loop-number).can_next l.number-iterator;
  is_finite : (goal.iterator-loop-number).is_finite l.number-iterator;
  done : l.found.items ++ listed is_any l.number-iterator ≡ listed is_any (of_user (Some l.fn.user) l.fn.world.table.sessions);
}
