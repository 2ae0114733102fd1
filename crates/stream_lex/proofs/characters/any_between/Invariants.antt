use Rattle.std.proofs.Common.{◌≡◌, drop}
use Rattle.stream_lex.specs.grammar.Classes.{has_between}
use Rattle.stream_lex.proofs.characters.any_between.Given as goal

-- the runs from here on decide
abbrev pub invariant-loop-run : goal.invariant-loop-run
invariant-loop-run l = has_between (drop l.run-index l.runs) l.low l.high ≡ has_between l.runs l.low l.high
