use Rattle.std.proofs.Common.{◌≡◌, true, false, max, arith}
use Rattle.std.proofs.lemmas.Grind.{common_steps}
use Rattle.stanza_tree.specs.Spelling.{escaped_in_value}
use Rattle.stanza_tree.proofs.RunLemmas.{tested_next, value-long}
use Rattle.stanza_tree.proofs.spell.are_plain_in_value.Goals as goal

pub loop-byte-preserved : goal.loop-byte-preserved
loop-byte-preserved c =
    let same : c.is_plain_in_value.result ≡ true → c.max-escapes.result ≡ c.loop-byte.escapes = λ h. grind (arith, common_steps) in
    let more : c.is_plain_in_value.result ≡ false → c.max-escapes.result ≡ max c.loop-byte.escapes 1 = λ h. grind (arith, common_steps) in
    let next = tested_next escaped_in_value c.args.bytes.now c.loop-byte.byte-index c.loop-byte.escapes c.max-escapes.result c.is_plain_in_value.result
    c.loop-byte-test.true value-long
    c.is_plain_in_value.ensures.0 c.is_plain_in_value.ensures.1 same more c.loop-byte.invariant.plain c.loop-byte.invariant.longer in
    record { plain = next.0; longer = next.1 }
