use Rattle.house_world.proofs.AppendLemmas.{then_more}
use Rattle.house_world.proofs.answers.push_bound.Goals as goal

pub returns-clause-bytes : goal.returns-clause-bytes
returns-clause-bytes c =
    let out = c.args.out.now.items in
    let id = then_more out _ _ _ _ c.append.ensures.bytes c.append_value.ensures.bytes in
    let jid = then_more out _ _ _ _ (then_more out _ _ _ _ id c.append-2.ensures.bytes) c.append_words.ensures.bytes in
    then_more out _ _ _ _ jid c.append-3.ensures.bytes
