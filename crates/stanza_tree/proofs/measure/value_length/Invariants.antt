use Rattle.std.proofs.Common.{◌≡◌, ◌<◌, ◌+◌, ◌-◌, ◌^◌, drop, length, min}
use Rattle.stanza_tree.specs.Spelling.{value_text}
use Rattle.stanza_tree.proofs.measure.value_length.Given as goal

abbrev pub invariant-loop-byte : goal.invariant-loop-byte
invariant-loop-byte l = record {
  fits : l.sum < 2 ^ 64;
  whole : min (l.sum + length (value_text (drop l.byte-index l.bytes))) (2 ^ 64 - 1) ≡ min (length (value_text l.bytes)) (2 ^ 64 - 1);
}
