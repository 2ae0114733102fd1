use Rattle.std.proofs.Common.{◌≡◌, ◌++◌}
use Rattle.session_table.specs.Tables.{of_user}
use Rattle.house_routing.specs.Listings.{is_named_by, numbers_by}
use Rattle.house_routing.proofs.listing.push_named.Given as goal

abbrev pub invariant-loop-number : goal.invariant-loop-number
invariant-loop-number l = record {
  can_next : (goal.iterator-loop-number).can_next l.number-iterator;
  is_finite : (goal.iterator-loop-number).is_finite l.number-iterator;
  done : l.numbers.items ++ numbers_by (is_named_by l.address) l.number-iterator
      ≡ l.fn.numbers.items ++ numbers_by (is_named_by l.fn.address) (of_user l.fn.address.local l.fn.world.table.sessions);
}
