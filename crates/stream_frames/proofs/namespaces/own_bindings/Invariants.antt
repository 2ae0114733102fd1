use Rattle.std.proofs.Common.{◌≡◌, ◌++◌, drop}
use Rattle.stream_grammar.specs.grammar.Namespaces.{own}
use Rattle.stream_frames.proofs.namespaces.own_bindings.Given as goal

abbrev pub invariant-loop-attribute : goal.invariant-loop-attribute
invariant-loop-attribute l = l.bindings.items ++ own (drop l.attribute-index l.attributes) ≡ own l.attributes
