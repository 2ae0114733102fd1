use Rattle.std.proofs.Common.{◌≡◌, ◌++◌, drop, map}
use Rattle.rsm_paging.specs.Matches.{match_of}
use Rattle.rsm_paging.specs.Pages.{matching}
use Rattle.rsm_paging.proofs.matching.matches.Given as goal

abbrev pub invariant-loop-row : goal.invariant-loop-row
invariant-loop-row l = l.all.items ++ map match_of (matching l.filter (drop l.row-index l.rows)) ≡ map match_of (matching l.filter l.rows)
