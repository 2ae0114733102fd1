use Rattle.std.proofs.Common.{◌≡◌, ◌+◌, drop}
use Rattle.stream_grammar.specs.grammar.Namespaces.{colon_at}
use Rattle.stream_frames.proofs.namespaces.colon_place.Given as goal

abbrev pub invariant-loop-i : goal.invariant-loop-i
invariant-loop-i l = l.i + colon_at (drop l.i l.name) ≡ colon_at l.name
