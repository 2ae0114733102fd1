use Rattle.std.proofs.Common.{length}
use Rattle.stream_frames.proofs.places.+move_of_words.Given as goal

abbrev pub decreases-move_of_words : goal.decreases-move_of_words
decreases-move_of_words l = length l.tokens.now
