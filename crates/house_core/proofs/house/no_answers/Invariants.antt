use Rattle.std.proofs.Common.{◌≡◌, [], replicate}
use Rattle.house_core.proofs.house.no_answers.Given as goal

abbrev pub invariant-loop-number : goal.invariant-loop-number
invariant-loop-number l = l.lines.items ≡ replicate l._number []
