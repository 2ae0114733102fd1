use Rattle.std.proofs.Common.{◌≡◌, drop}
use Rattle.stream_grammar.specs.grammar.Namespaces.{has_forbidden}
use Rattle.stream_frames.proofs.namespaces.any_forbidden.Given as goal

abbrev pub invariant-loop-attribute : goal.invariant-loop-attribute
invariant-loop-attribute l = has_forbidden (drop l.attribute-index l.attributes) ≡ has_forbidden l.attributes
