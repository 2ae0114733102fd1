use Rattle.std.proofs.Common.{◌≡◌, true}
use Rattle.stream_grammar.specs.machine.Reading.{is_ready}
use Rattle.unit_trials.proofs.syntax.fault_of.Given as goal

abbrev pub invariant-loop-byte : goal.invariant-loop-byte
invariant-loop-byte l = is_ready l.framer.reading ≡ true
