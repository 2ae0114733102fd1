use Rattle.std.proofs.Common.{◌≡◌, take, None}
use Rattle.stream_grammar.specs.grammar.Namespaces.{last_space}
use Rattle.stream_frames.proofs.namespaces.last_bound.Given as goal

abbrev pub invariant-loop-i : goal.invariant-loop-i
invariant-loop-i l = last_space None (take l.i l.bindings) l.prefix ≡ last_space None l.bindings l.prefix
