use Rattle.std.proofs.Common.{◌≡◌, take}
use Rattle.stream_frames.specs.Spaces.{bound_space}
use Rattle.stream_grammar.specs.grammar.Namespaces.{last_layer}
use Rattle.stream_frames.proofs.namespaces.last_in_layers.Given as goal

abbrev pub invariant-loop-i : goal.invariant-loop-i
invariant-loop-i l = last_layer (bound_space l.given) (take l.i l.layers) l.prefix ≡ last_layer (bound_space l.given) l.layers l.prefix
