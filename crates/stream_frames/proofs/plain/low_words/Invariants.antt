use Rattle.std.proofs.Common.{◌≡◌, take, true}
use Rattle.stream_frames.specs.Runs.{are_plain, is_plain_word}
use Rattle.stream_frames.proofs.plain.low_words.Given as goal

abbrev pub invariant-loop-i : goal.invariant-loop-i
invariant-loop-i l = are_plain is_plain_word (take l.i l.bytes) ≡ true
