use Rattle.std.proofs.Common.{◌≡◌, ◌<◌, ◌+◌, ◌^◌, length}
use Rattle.std.specs.Fmt.{decimal}
use Rattle.stanza_tree.proofs.measure.decimal_length.Given as goal

abbrev pub invariant-loop-rest : goal.invariant-loop-rest
invariant-loop-rest l = record {
  within : l.rest < 2 ^ 64;
  digits : l.digits + l.rest < 2 ^ 64 + 1;
  whole : l.digits + length (decimal l.rest) ≡ length (decimal l.number) + 1;
}

abbrev pub decreases-loop-rest : goal.decreases-loop-rest
decreases-loop-rest l = l.rest
