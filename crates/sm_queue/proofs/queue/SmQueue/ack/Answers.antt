use Rattle.std.proofs.Common.{Ok, sym, subst}
use Rattle.sm_queue.specs.Queues.{Queue}
use Rattle.sm_queue.specs.Wholes.{Acks}
use Rattle.sm_queue.proofs.WholeLemmas.{acks_up_to}
use Rattle.sm_queue.proofs.queue.SmQueue.ack.Goals as goal

pub returns-clause-whole : goal.returns-clause-whole
returns-clause-whole c = λ all base kept sent stands.
    let old = c.args.self.now in
    let handled = c.in_ok-n.ensures in
    let place = handled.whole base kept sent stands.counted stands.given stands.began stands.in_order in
    let P : Queue → Type 0 = λ q. Acks all base kept sent c.args.h old q (Ok tt) in
    subst P (sym c.give_up.ensures)
    (acks_up_to all base kept sent c.args.h c.in_ok-n.n old stands handled.within place)
