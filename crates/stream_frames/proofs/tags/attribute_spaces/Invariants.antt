use Rattle.std.proofs.Common.{◌≡◌, ◌++◌, map, drop}
use Rattle.stream_frames.specs.Expanded.{full_name, spaces_of}
use Rattle.stream_frames.proofs.tags.attribute_spaces.Given as goal

abbrev pub invariant-loop-name : goal.invariant-loop-name
invariant-loop-name l = l.spaces.items ++ spaces_of (map full_name (drop l.name-index l.names)) ≡ spaces_of (map full_name l.names)
