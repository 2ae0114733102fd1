use Rattle.std.proofs.Common.{false, true}
use Rattle.conn_staff.proofs.Places.{as_noted, by_fault, by_shut, has_worked}
use Rattle.conn_staff.proofs.worker.tend.Goals as goal

pub returns-in-Shut-clause-worked : goal.returns-in-Shut-clause-worked
returns-in-Shut-clause-worked g c =
    let e = c.serve_many.ensures in
    has_worked _ _ _ g.C.Clock.told g.I.Dice.drawn g.I.Dice.faults g.P.Link.Link.tape g.P.Link.Link.faults g.P.Link.Link.ends c.args.hall.now
    c.args.accounts.now _ _ _ _ _ _ _ _ _ _ (g.P.Poller.places c.args.worker.now.poller) (g.P.Poller.places c.serve_many.new.poller)
    _ false c.args.worker.now.places.items c.serve_many.new.places.items c.requires.ready.fit.places e.places e.count e.pass e.served e.quota e.within
    e.sum e.kept
    (by_shut c.serve_many.result _ _ _ c.in-Shut.is e.ends)

pub returns-in-PollFault-clause-worked : goal.returns-in-PollFault-clause-worked
returns-in-PollFault-clause-worked g c =
    let e = c.serve_many.ensures in
    let n = c.tell_fault.ensures in
    as_noted _ _ _ g.C.Clock.told g.I.Dice.drawn g.I.Dice.faults g.P.Link.Link.tape g.P.Link.Link.faults g.P.Link.Link.ends c.args.hall.now
    c.args.accounts.now (g.P.Poller.tapes c.serve_many.new.poller) _ (g.P.Poller.came c.serve_many.new.poller) _ _ _ _ _ _ _ true
    c.serve_many.new.places.items _ n.tapes n.seats.came n.seats.links n.faults n.quota
    (has_worked _ _ _ g.C.Clock.told g.I.Dice.drawn g.I.Dice.faults g.P.Link.Link.tape g.P.Link.Link.faults g.P.Link.Link.ends c.args.hall.now
    c.args.accounts.now _ _ _ _ _ _ _ _ _ _ (g.P.Poller.places c.args.worker.now.poller) (g.P.Poller.places c.serve_many.new.poller)
    _ true c.args.worker.now.places.items c.serve_many.new.places.items c.requires.ready.fit.places e.places e.count e.pass e.served e.quota e.within
    e.sum e.kept
    (by_fault c.serve_many.result _ _ _ c.in-PollFault.is e.ends))
