use Rattle.std.proofs.Common.{◌≡◌, drop}
use Rattle.stream_frames.specs.Unprefixed.{has_name}
use Rattle.stream_frames.proofs.unprefixed.has_name.Given as goal

abbrev pub invariant-loop-other : goal.invariant-loop-other
invariant-loop-other l = has_name l.attribute (drop l.other-index l.others) ≡ has_name l.attribute l.others
