use Rattle.std.proofs.Common.{◌≡◌, map, drop}
use Rattle.stream_frames.specs.Expanded.{full_name, has_repeat}
use Rattle.stream_frames.proofs.expanded.any_repeat.Given as goal

abbrev pub invariant-loop-i : goal.invariant-loop-i
invariant-loop-i l = has_repeat (map full_name (drop l.i l.names)) ≡ has_repeat (map full_name l.names)
