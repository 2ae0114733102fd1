use Rattle.std.proofs.Common.{◌∙◌, arith}
use Rattle.stanza_tree.specs.Spelling.{escaped_in_value}
use Rattle.stanza_tree.proofs.RunLemmas.{run_longer}
use Rattle.stanza_tree.proofs.spell.push_value.Goals as goal

pub loop-i-preserved-then-is_plain_in_value : goal.loop-i-preserved-then-is_plain_in_value
loop-i-preserved-then-is_plain_in_value c = record {
  within = omega arith;
  joined = run_longer escaped_in_value c.args.bytes.now c.loop-i.out.items c.loop-i.from c.loop-i.i c.loop-i.invariant.within c.loop-i-test.true
      (c.is_plain_in_value.ensures.0 c.if-is_plain_in_value.true)
      ∙ c.loop-i.invariant.joined;
  kept = c.loop-i.invariant.kept;
}
