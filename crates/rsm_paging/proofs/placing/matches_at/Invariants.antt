use Rattle.std.proofs.Common.{◌≡◌, ◌++◌, ◌+◌, ◌-◌, map}
use Rattle.std.specs.Option.{option_copied}
use Rattle.rsm_paging.specs.Matches.{match_of}
use Rattle.rsm_paging.specs.Places.{rows_at}
use Rattle.rsm_paging.proofs.placing.matches_at.Given as goal

abbrev pub invariant-loop-i : goal.invariant-loop-i
invariant-loop-i l =
    l.all.items ++ map match_of (rows_at l.rows (option_copied l.fn.picked) (l.span.from + l.i) (l.span.many - l.i))
    ≡ map match_of (rows_at l.rows (option_copied l.fn.picked) l.span.from l.span.many)
