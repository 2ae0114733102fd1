use Rattle.std.proofs.Common.{◌∙◌, ◌+◌, ◌++◌, arith, ap, drop, length}
use Rattle.std.proofs.lemmas.Grind.{common_steps}
use Rattle.stanza_tree.specs.Spelling.{escaped_in_value, value_text}
use Rattle.stanza_tree.proofs.RunLemmas.{run_longer, spelt_next}
use Rattle.stanza_tree.proofs.frame.append_value.Goals as goal

pub loop-i-preserved-then-is_plain_in_value : goal.loop-i-preserved-then-is_plain_in_value
loop-i-preserved-then-is_plain_in_value c =
    let plain = c.is_plain_in_value.ensures.0 c.if-is_plain_in_value.true in
    let next = ap length (spelt_next escaped_in_value c.args.bytes.now c.loop-i.i c.loop-i-test.true
    ∙ ap (λ s. s ++ value_text (drop (c.loop-i.i + 1) c.args.bytes.now)) plain) in
    record {
      within = omega arith;
      room = omega (arith, next, c.loop-i.invariant.room, c.loop-i.invariant.within);
      grown = c.loop-i.invariant.grown;
      joined = run_longer escaped_in_value c.args.bytes.now c.loop-i.out.items c.loop-i.from c.loop-i.i c.loop-i.invariant.within c.loop-i-test.true plain
          ∙ c.loop-i.invariant.joined;
    }

pub loop-i-preserved : goal.loop-i-preserved
loop-i-preserved c =
    let next = spelt_next escaped_in_value c.args.bytes.now c.loop-i.i c.loop-i-test.true in
    record {
      within = omega arith;
      room = grind (arith, common_steps, next);
      grown = omega arith;
      joined = grind (arith, common_steps, next);
    }
