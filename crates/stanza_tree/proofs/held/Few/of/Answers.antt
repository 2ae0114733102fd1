use Rattle.std.proofs.Common.{rules}
use Rattle.stanza_tree.proofs.HeldLemmas.{utf8_in_front}
use Rattle.stanza_tree.proofs.held.Few.of.Goals as goal

pub invariant_of-result : goal.invariant_of-result
invariant_of-result c =
    (search rules, utf8_in_front c.as_bytes-bytes.result.now c.copy_from_slice.new.self _ (search rules) c.as_bytes-bytes.ensures.utf8)
