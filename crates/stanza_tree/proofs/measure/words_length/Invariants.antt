use Rattle.std.proofs.Common.{◌≡◌, ◌<◌, ◌+◌, ◌-◌, ◌^◌, drop, length, min}
use Rattle.stanza_tree.specs.Spelling.{words_text}
use Rattle.stanza_tree.proofs.measure.words_length.Given as goal

abbrev pub invariant-loop-byte : goal.invariant-loop-byte
invariant-loop-byte l = record {
  fits : l.sum < 2 ^ 64;
  whole : min (l.sum + length (words_text (drop l.byte-index l.bytes))) (2 ^ 64 - 1) ≡ min (length (words_text l.bytes)) (2 ^ 64 - 1);
}
