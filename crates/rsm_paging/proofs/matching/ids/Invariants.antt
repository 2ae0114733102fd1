use Rattle.std.proofs.Common.{◌≡◌, ◌++◌, drop}
use Rattle.rsm_paging.specs.Matches.{ids}
use Rattle.rsm_paging.proofs.matching.ids.Given as goal

abbrev pub invariant-loop-one : goal.invariant-loop-one
invariant-loop-one l = l.all.items ++ ids (drop l.one-index l.matches) ≡ ids l.matches
