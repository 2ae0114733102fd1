use Rattle.std.proofs.Common.{◌-◌, ◌≤◌, length}
use Rattle.std.specs.List.{filter}
use Rattle.std.specs.Option.{option_copied}
use Rattle.rsm_paging.specs.Places.{comes_before, rows_at}
use Rattle.rsm_paging.proofs.placing.count_before.Given as goal

abbrev pub invariant-loop-low : goal.invariant-loop-low
invariant-loop-low l = record {
  order : l.low ≤ l.high;
  within : l.high ≤ l.span.many;
  low : l.low ≤ length (filter (comes_before l.bound) (rows_at l.rows (option_copied l.fn.picked) l.span.from l.span.many));
  high : length (filter (comes_before l.bound) (rows_at l.rows (option_copied l.fn.picked) l.span.from l.span.many)) ≤ l.high;
}

abbrev pub decreases-loop-low : goal.decreases-loop-low
decreases-loop-low l = l.high - l.low
