use Rattle.std.proofs.Common.{rules}
use Rattle.outside.proofs.PollLemmas.{changed, free_there, is_new}
use Rattle.outside.proofs.mem_poller.MemPoller.bring.Goals as goal

pub returns-in-Some-clause-rings : goal.returns-in-Some-clause-rings
returns-in-Some-clause-rings c =
    let there = free_there c.args.self.now.places c.args.k (search rules) in
    is_new c.args.self.now.places c.args.self.now.quota c.args.self.now.links _ _ c.args.k there.0 (search rules) there.1
    (changed _ c.args.self.now.places c.args.k c.index_mut.result.now _ (search rules) there.0 c.index_mut.ensures.value c.take_up.ensures) (search rules)
