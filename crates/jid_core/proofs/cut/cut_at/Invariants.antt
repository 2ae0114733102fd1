use Rattle.std.proofs.Common.{◌≡◌, ◌++◌, take, drop}
use Rattle.jid_core.specs.Cuts.{before, after}
use Rattle.jid_core.proofs.cut.cut_at.Given as goal

abbrev pub invariant-loop-i : goal.invariant-loop-i
invariant-loop-i l = record {
  front : take l.i l.bytes ++ before l.byte (drop l.i l.bytes) ≡ before l.byte l.bytes;
  rest : after l.byte (drop l.i l.bytes) ≡ after l.byte l.bytes;
}
