use Rattle.std.proofs.Common.{◌≡◌}
use Rattle.hall.proofs.call.note_stirred.Given as goal

abbrev pub invariant-loop : goal.invariant-loop
invariant-loop l = record {
  same : l.house ≡ l.fn.house;
}
