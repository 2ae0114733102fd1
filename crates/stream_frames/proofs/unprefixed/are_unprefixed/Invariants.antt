use Rattle.std.proofs.Common.{◌≡◌, drop}
use Rattle.stream_frames.specs.Unprefixed.{are_unprefixed}
use Rattle.stream_frames.proofs.unprefixed.are_unprefixed.Given as goal

abbrev pub invariant-loop-attribute : goal.invariant-loop-attribute
invariant-loop-attribute l = are_unprefixed (drop l.attribute-index l.attributes) ≡ are_unprefixed l.attributes
