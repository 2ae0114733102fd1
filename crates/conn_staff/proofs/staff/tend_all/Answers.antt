use Rattle.std.proofs.Common.{rules}
use denote.Exit.{no}
use denote.Param.Send.{arg_send, param_send}
use Rattle.conn_staff.specs.Workers.{crew_of}
use Rattle.conn_staff.proofs.Sending.{worker_send}
use Rattle.conn_staff.proofs.Tending.{all_worked, by_call}
use Rattle.conn_staff.proofs.staff.tend_all.Goals as goal

pub for_each_mut-requires-send-T : goal.for_each_mut-requires-send-T
for_each_mut-requires-send-T g c κs within =
    let bounds = c.type_bounds in
    param_send 1 _ (arg_send _ no _ (worker_send _ _ _ _ (param_send 1 _ bounds.send-P) (param_send 4 _ bounds.send-P-Link) (param_send 2 _ bounds.send-C)
    (param_send 3 _ bounds.send-I)))

pub returns-clause-worked : goal.returns-clause-worked
returns-clause-worked g c =
    all_worked c.args.hall.now c.args.accounts.now _
    (crew_of _ _ _ _ g.P.Poller.tapes g.P.Poller.came g.P.Poller.links g.P.Poller.faults g.P.Poller.quota g.C.Clock.told g.I.Dice.drawn g.I.Dice.faults)
    c.args.workers.now c.for_each_mut.new.s (search rules)
    (λ i d within.
    let at = (c.for_each_mut.ensures i d within).1 in
    by_call c.args.hall.now c.args.accounts.now _
    (crew_of _ _ _ _ g.P.Poller.tapes g.P.Poller.came g.P.Poller.links g.P.Poller.faults g.P.Poller.quota g.C.Clock.told g.I.Dice.drawn g.I.Dice.faults)
    _ _ _ _ at.argument_is at.left at.call.1)
