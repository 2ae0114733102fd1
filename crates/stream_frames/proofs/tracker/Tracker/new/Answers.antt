use Rattle.stream_lex.proofs.Standing.{start-live}
use Rattle.stream_frames.proofs.tracker.Tracker.new.Goals as goal

pub invariant_of-result : goal.invariant_of-result
invariant_of-result c = (start-live c.start.result c.start.ensures, c.requires.deep, c.requires.wide)
