use Rattle.std.proofs.Common.{◌≡◌, ◌++◌, map, drop}
use Rattle.stream_frames.specs.Expanded.{full_name, expanded}
use Rattle.stream_frames.proofs.expanded.expanded_names.Given as goal

abbrev pub invariant-loop-attribute : goal.invariant-loop-attribute
invariant-loop-attribute l = map full_name l.names.items ++ map (expanded l.bindings) (drop l.attribute-index l.attributes)
    ≡ map (expanded l.bindings) l.attributes
