-- Both sides have the same octet in each place.
use Rattle.std.proofs.Common.{rules, arith, ◌≡◌, ◌∙◌, sym, length}
use Rattle.std.proofs.lemmas.Grind.{same_number_lists}
use Rattle.hmac_kdf.specs.Hi.{exclusive_or}
use Rattle.hmac_kdf.proofs.Octets.{length-exclusive_or, slice_index-exclusive_or}
use Rattle.hmac_kdf.proofs.block.xor_into.Goals as goal

pub returns : goal.returns
returns c =
    let sum = c.args.sum.now in
    let u = c.args.u.now in
    let long : length c.loop-i.sum ≡ length sum = search rules in
    same_number_lists c.loop-i.sum (exclusive_or sum u)
    (long ∙ sym (length-exclusive_or sum u c.requires))
    (λ k within. c.loop-i.invariant.xored_before k (omega arith)
    ∙ sym (slice_index-exclusive_or sum u k c.requires (omega arith)))
