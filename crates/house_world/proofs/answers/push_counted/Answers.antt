use Rattle.house_world.proofs.AppendLemmas.{then_more}
use Rattle.house_world.proofs.answers.push_counted.Goals as goal

pub returns-clause-bytes : goal.returns-clause-bytes
returns-clause-bytes c =
    then_more c.args.out.now.items _ _ _ _ (then_more c.args.out.now.items _ _ _ _ c.append.ensures.bytes c.push_decimal.ensures.bytes) c.append-2.ensures.bytes
