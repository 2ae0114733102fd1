use Rattle.std.proofs.Common.{arith}
use Rattle.stanza_tree.proofs.DecimalLemmas.{length-decimal-step, length-decimal-digit}
use Rattle.stanza_tree.proofs.measure.decimal_length.Goals as goal

pub loop-rest-preserved : goal.loop-rest-preserved
loop-rest-preserved c = record {
  within = omega arith;
  digits = omega arith;
  whole = omega (arith, length-decimal-step c.loop-rest.rest c.loop-rest-test.true c.loop-rest.invariant.within);
}

pub returns : goal.returns
returns c = omega (arith, length-decimal-digit c.loop-rest.rest c.loop-rest-test.false)
