use Rattle.std.proofs.Common.{◌≡◌, ◌+◌}
use Rattle.house_routing.proofs.CountLemmas.{counted, is_same, is_users_other}
use Rattle.house_core.proofs.binding.has_place.Given as goal

abbrev pub invariant-loop-number : goal.invariant-loop-number
invariant-loop-number l = record {
  can_next : (goal.iterator-loop-number).can_next l._number-iterator;
  is_finite : (goal.iterator-loop-number).is_finite l._number-iterator;
  same : l.same + counted (is_same l.address) l._number-iterator ≡ counted (is_same l.fn.address) l.fn.world.table.sessions;
  others : l.others + counted (is_users_other l.address) l._number-iterator
      ≡ counted (is_users_other l.fn.address) l.fn.world.table.sessions;
}
