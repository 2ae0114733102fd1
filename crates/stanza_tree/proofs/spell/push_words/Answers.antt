use Rattle.std.proofs.Common.{◌∙◌, arith}
use Rattle.stanza_tree.specs.Spelling.{escaped_in_words}
use Rattle.stanza_tree.proofs.RunLemmas.{run_longer}
use Rattle.stanza_tree.proofs.spell.push_words.Goals as goal

pub loop-i-preserved-then-is_plain_in_words : goal.loop-i-preserved-then-is_plain_in_words
loop-i-preserved-then-is_plain_in_words c = record {
  within = omega arith;
  joined = run_longer escaped_in_words c.args.bytes.now c.loop-i.out.items c.loop-i.from c.loop-i.i c.loop-i.invariant.within c.loop-i-test.true
      (c.is_plain_in_words.ensures.0 c.if-is_plain_in_words.true)
      ∙ c.loop-i.invariant.joined;
  kept = c.loop-i.invariant.kept;
}
