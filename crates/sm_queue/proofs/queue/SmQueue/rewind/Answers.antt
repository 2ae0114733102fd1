use Rattle.std.proofs.Common.{Ok, sym, subst, ◌∙◌}
use Rattle.sm_queue.specs.Queues.{Queue}
use Rattle.sm_queue.specs.Wholes.{Rewinds}
use Rattle.sm_queue.proofs.WholeLemmas.{rewinds_to}
use Rattle.sm_queue.proofs.queue.SmQueue.rewind.Goals as goal

pub returns-clause-whole : goal.returns-clause-whole
returns-clause-whole c = λ all base kept sent stands.
    let old = c.args.self.now in
    let handled = c.in_ok-n.ensures in
    let place = handled.whole base kept sent stands.counted stands.given stands.began stands.in_order in
    let P : Queue → Type 0 = λ q. Rewinds all base kept sent c.args.h old (record q { given = 0 }) (Ok tt) in
    subst P (sym (c.self.view_is ∙ c.give_up.ensures))
    (rewinds_to all base kept sent c.args.h c.in_ok-n.n old stands handled.within place)
