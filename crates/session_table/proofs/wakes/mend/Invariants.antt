use Rattle.std.proofs.Common.{◌≡◌, ℕ, ◌≤◌, ◌*◌, length, drop}
use Rattle.session_table.specs.Waking.{IsTreeBut}
use Rattle.session_table.proofs.wakes.mend.Given as goal

abbrev pub invariant-loop-at : goal.invariant-loop-at
invariant-loop-at l = record {
  low : l.at ≤ l.from;
  wide : length l.nodes ≡ length l.fn.nodes;
  tree : IsTreeBut l.at l.nodes;
  places : (half : ℕ) → length l.fn.nodes ≤ 2 * half → drop half l.nodes ≡ drop half l.fn.nodes;
}

abbrev pub decreases-loop-at : goal.decreases-loop-at
decreases-loop-at l = l.at
