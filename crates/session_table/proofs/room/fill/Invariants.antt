use Rattle.std.proofs.Common.{◌≡◌, ◌++◌, length}
use Rattle.session_table.specs.Indexes.{AreWakes, Slots}
use Rattle.session_table.proofs.room.fill.Given as goal

abbrev pub invariant-loop-number : goal.invariant-loop-number
invariant-loop-number l = record {
  can_next : (goal.iterator-loop-number).can_next l._number-iterator;
  is_finite : (goal.iterator-loop-number).is_finite l._number-iterator;
  done : Slots;
  moments : AreWakes done l.wakes;
  rest : done ++ l._number-iterator ≡ l.fn.slots.entries;
  at : l.place ≡ length done;
  wide : length l.wakes ≡ length l.fn.wakes;
}
