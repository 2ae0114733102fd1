-- Both sides have the same octet in each place.
use Rattle.std.proofs.Common.{rules, arith, ◌≡◌, ◌∙◌, sym, length}
use Rattle.std.proofs.lemmas.Grind.{same_number_lists}
use Rattle.hmac_kdf.specs.Hi.{exclusive_or}
use Rattle.scram_core.proofs.Octets.{length-exclusive_or, slice_index-exclusive_or}
use Rattle.scram_core.proofs.proof.xor_into.Goals as goal

pub returns : goal.returns
returns c =
    let string = c.args.string.now in
    let sum = c.args.sum.now in
    let long : length c.loop-i.sum ≡ length sum = search rules in
    same_number_lists c.loop-i.sum (exclusive_or string sum)
    (long ∙ (sym c.requires ∙ sym (length-exclusive_or string sum c.requires)))
    (λ k within. c.loop-i.invariant.xored_before k (omega arith)
    ∙ sym (slice_index-exclusive_or string sum k c.requires (omega arith)))
