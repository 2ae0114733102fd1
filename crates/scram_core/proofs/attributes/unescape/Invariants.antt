use Rattle.std.proofs.Common.{◌≡◌, ◌++◌, length}
use Rattle.scram_core.specs.Attributes.{unescaped}
use Rattle.scram_core.proofs.attributes.unescape.Given as goal

abbrev pub invariant-loop-rest : goal.invariant-loop-rest
invariant-loop-rest l = l.name.items ++ unescaped l.rest ≡ unescaped l.fn.text

abbrev pub decreases-loop-rest : goal.decreases-loop-rest
decreases-loop-rest l = length l.rest
