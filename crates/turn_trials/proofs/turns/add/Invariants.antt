use Rattle.std.proofs.Common.{◌≡◌}
use Rattle.turn_trials.proofs.turns.add.Given as goal

abbrev pub invariant-loop : goal.invariant-loop
invariant-loop g l = record {
  can : (goal.iterator-loop g).can_next l.iterator';
  ends : (goal.iterator-loop g).is_finite l.iterator';
  base : l.tally.base ≡ l.fn.tally.base;
  entries : l.tally.entries.items ≡ l.fn.tally.entries.items;
}
