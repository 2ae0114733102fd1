use Rattle.std.proofs.Common.{◌≡◌, ◌+◌, ◌≤◌, drop}
use Rattle.rsm_paging.specs.Matches.{below}
use Rattle.rsm_paging.proofs.matching.below.Given as goal

abbrev pub invariant-loop-one : goal.invariant-loop-one
invariant-loop-one l = (below l.fn.id l.matches ≡ l.many + below l.fn.id (drop l.one-index l.matches)) × (l.many ≤ l.one-index)
