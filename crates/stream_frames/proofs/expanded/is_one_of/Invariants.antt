use Rattle.std.proofs.Common.{◌≡◌, map, drop}
use Rattle.stream_frames.specs.Expanded.{full_name, is_among}
use Rattle.stream_frames.proofs.expanded.is_one_of.Given as goal

abbrev pub invariant-loop-other : goal.invariant-loop-other
invariant-loop-other l = is_among (full_name l.name) (map full_name (drop l.other-index l.others)) ≡ is_among (full_name l.name) (map full_name l.others)
