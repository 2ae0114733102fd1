use Rattle.std.proofs.Common.{◌^◌}
use Rattle.session_table.proofs.WakeLemmas.{IsFirstAt}
use Rattle.session_table.proofs.wakes.descend.Given as goal

abbrev pub invariant-loop-level : goal.invariant-loop-level
invariant-loop-level l = record {
  first : IsFirstAt l.now l.nodes (2 ^ l._level) l.at;
}
