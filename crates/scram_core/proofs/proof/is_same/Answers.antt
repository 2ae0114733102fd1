use Rattle.std.proofs.Common.{◌∙◌, arith}
use Rattle.scram_core.proofs.Octets.{same_more}
use Rattle.scram_core.proofs.proof.is_same.Goals as goal

pub loop-i-preserved : goal.loop-i-preserved
loop-i-preserved c = same_more c.args.one.now c.args.other.now c.loop-i.i c.loop-i.differing (omega arith) (omega arith) ∙ c.loop-i.invariant
