use Rattle.std.proofs.Common.{◌≡◌, ◌++◌, drop, map}
use Rattle.house_model.specs.ArchiveLookups.{delayed}
use Rattle.house_routing.proofs.keeping.all_delayed.Given as goal

abbrev pub invariant-loop-row : goal.invariant-loop-row
invariant-loop-row l = l.past.items ++ map delayed (drop l.row-index l.rows) ≡ map delayed l.fn.rows
