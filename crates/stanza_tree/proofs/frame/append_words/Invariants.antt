use Rattle.std.proofs.Common.{◌≡◌, ◌≤◌, ◌+◌, ◌-◌, ◌++◌, drop, length, slice_range, vec_len, vec_capacity}
use Rattle.stanza_tree.specs.Spelling.{words_text}
use Rattle.stanza_tree.proofs.frame.append_words.Given as goal

abbrev pub invariant-loop-i : goal.invariant-loop-i
invariant-loop-i l = record {
  within : l.from ≤ l.i;
  room : vec_len l.out + (l.i - l.from) + length (words_text (drop l.i l.bytes)) ≤ vec_capacity l.out;
  grown : vec_capacity l.fn.out ≤ vec_capacity l.out;
  joined : l.out.items ++ slice_range l.bytes l.from l.i ++ words_text (drop l.i l.bytes) ≡ l.fn.out.items ++ words_text l.bytes;
}
