use Rattle.std.proofs.Common.{◌≡◌, ◌+◌, drop}
use Rattle.rsm_paging.specs.Matches.{fit_beside}
use Rattle.rsm_paging.proofs.matching.fit_beside.Given as goal

abbrev pub invariant-loop-one : goal.invariant-loop-one
invariant-loop-one l = (fit_beside l.fn.bytes l.matches ≡ l.many + fit_beside l.bytes (drop l.one-index l.matches)) × (l.many ≡ l.one-index)
