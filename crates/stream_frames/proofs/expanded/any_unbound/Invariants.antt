use Rattle.std.proofs.Common.{◌≡◌, map, drop}
use Rattle.stream_frames.specs.Expanded.{full_name, has_unbound_name}
use Rattle.stream_frames.proofs.expanded.any_unbound.Given as goal

abbrev pub invariant-loop-name : goal.invariant-loop-name
invariant-loop-name l = has_unbound_name (map full_name (drop l.name-index l.names)) ≡ has_unbound_name (map full_name l.names)
