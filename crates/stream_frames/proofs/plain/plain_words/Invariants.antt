use Rattle.std.proofs.Common.{◌≤◌, ◌-◌, take, length}
use Rattle.stream_frames.specs.Runs.{Spells, is_word_character}
use Rattle.stream_frames.proofs.plain.plain_words.Given as goal

abbrev pub invariant-loop-at : goal.invariant-loop-at
invariant-loop-at l = record {
  within : l.at ≤ length l.bytes;
  plain : Spells is_word_character (take l.at l.bytes);
}

abbrev pub decreases-loop-at : goal.decreases-loop-at
decreases-loop-at l = length l.bytes - l.at
