use Rattle.std.proofs.Common.{◌≡◌, ◌+◌, ◌≤◌, drop}
use Rattle.rsm_paging.specs.Matches.{up_to}
use Rattle.rsm_paging.proofs.matching.up_to.Given as goal

abbrev pub invariant-loop-one : goal.invariant-loop-one
invariant-loop-one l = (up_to l.fn.id l.matches ≡ l.many + up_to l.fn.id (drop l.one-index l.matches)) × (l.many ≤ l.one-index)
