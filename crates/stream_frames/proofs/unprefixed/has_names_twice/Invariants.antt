use Rattle.std.proofs.Common.{◌≡◌, drop}
use Rattle.stream_frames.specs.Unprefixed.{has_names_twice}
use Rattle.stream_frames.proofs.unprefixed.has_names_twice.Given as goal

abbrev pub invariant-loop-i : goal.invariant-loop-i
invariant-loop-i l = has_names_twice (drop l.i l.attributes) ≡ has_names_twice l.attributes
