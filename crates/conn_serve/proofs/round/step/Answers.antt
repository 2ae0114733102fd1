use Rattle.std.proofs.Common.{◌∙◌, inl, refl, sym}
use Rattle.hall.specs.Desks.{turns_of}
use Rattle.flow_laws.specs.Standing.{duty}
use Rattle.conn_serve.proofs.Passing.{ends_here, flushed_round, flushed_step, owes_at, sent_on}
use Rattle.conn_serve.proofs.round.step.Goals as goal

pub returns-then-is_many-clause-stepped : goal.returns-then-is_many-clause-stepped
returns-then-is_many-clause-stepped g c = λ o p line accounts at.
    let moved = c.in-Goes.ensures.turned o p (g.L.Link.tape c.args.link.now) (g.C.Clock.told c.args.clock.now) (g.L.Link.faults c.args.link.now)
    (g.L.Link.ends c.args.link.now) line accounts at in
    flushed_step o _ _ _ _ _ _ _ _ _ c.flush.result moved
    (c.flush.ensures.flushed o (duty o moved.came.to) (turns_of (g.D.Desk.line c.args.pass.now) (g.D.Desk.seen c.answer.new.pass))
    (g.I.Dice.drawn c.answer.new.dice)
    (g.I.Dice.faults c.answer.new.dice) (owes_at o moved.came.to _ _ _ moved.came.at))

pub returns-in-None-clause-stepped : goal.returns-in-None-clause-stepped
returns-in-None-clause-stepped g c = λ o p line accounts at.
    let rests = c.in-Rests.ensures.turned o p (g.L.Link.tape c.args.link.now) (g.C.Clock.told c.args.clock.now) (g.L.Link.faults c.args.link.now)
    (g.L.Link.ends c.args.link.now) line accounts at in
    let sent = c.in-None.ensures.flushed o (duty o rests.0.to) (turns_of (g.D.Desk.line c.args.pass.now) (g.D.Desk.seen c.answer.new.pass))
    (g.I.Dice.drawn c.answer.new.dice)
    (g.I.Dice.faults c.answer.new.dice) (owes_at o rests.0.to _ _ _ rests.0.at) in
    (sent_on o _ _ _ _ _ _ _ _ rests.0 sent.0, sent.1, rests.1, rests.2)

pub returns-in-Some-clause-stepped : goal.returns-in-Some-clause-stepped
returns-in-Some-clause-stepped g c = λ o p line accounts at.
    let rests = c.in-Rests.ensures.turned o p (g.L.Link.tape c.args.link.now) (g.C.Clock.told c.args.clock.now) (g.L.Link.faults c.args.link.now)
    (g.L.Link.ends c.args.link.now) line accounts at in
    flushed_round o _ _ _ _ _ _ _ _ c.in-Some.round rests.0
    (c.in-Some.ensures.flushed o (duty o rests.0.to) (turns_of (g.D.Desk.line c.args.pass.now) (g.D.Desk.seen c.answer.new.pass))
    (g.I.Dice.drawn c.answer.new.dice)
    (g.I.Dice.faults c.answer.new.dice) (owes_at o rests.0.to _ _ _ rests.0.at))

pub returns-in-None-flush-clause-stepped : goal.returns-in-None-flush-clause-stepped
returns-in-None-flush-clause-stepped g c = λ o p line accounts at.
    let over = c.in-Over.ensures.turned o p (g.L.Link.tape c.args.link.now) (g.C.Clock.told c.args.clock.now) (g.L.Link.faults c.args.link.now)
    (g.L.Link.ends c.args.link.now) line accounts at in
    let sent = c.in-None-flush.ensures.flushed o (duty o over.0.to) (turns_of (g.D.Desk.line c.args.pass.now) (g.D.Desk.seen c.answer.new.pass))
    (g.I.Dice.drawn c.answer.new.dice)
    (g.I.Dice.faults c.answer.new.dice) (owes_at o over.0.to _ _ _ over.0.at) in
    ends_here o _ _ _ _ _ _ _ _ (sent_on o _ _ _ _ _ _ _ _ over.0 sent.0) sent.1 over.1 c.moment.ensures

pub returns-in-Some-flush-clause-stepped : goal.returns-in-Some-flush-clause-stepped
returns-in-Some-flush-clause-stepped g c = λ o p line accounts at.
    let over = c.in-Over.ensures.turned o p (g.L.Link.tape c.args.link.now) (g.C.Clock.told c.args.clock.now) (g.L.Link.faults c.args.link.now)
    (g.L.Link.ends c.args.link.now) line accounts at in
    flushed_round o _ _ _ _ _ _ _ _ c.in-Some-flush.round over.0
    (c.in-Some-flush.ensures.flushed o (duty o over.0.to) (turns_of (g.D.Desk.line c.args.pass.now) (g.D.Desk.seen c.answer.new.pass))
    (g.I.Dice.drawn c.answer.new.dice)
    (g.I.Dice.faults c.answer.new.dice) (owes_at o over.0.to _ _ _ over.0.at))

pub returns-then-is_many-clause-mark : goal.returns-then-is_many-clause-mark
returns-then-is_many-clause-mark g c = c.in-Goes.ensures.mark ∙ sym (c.flush.ensures.mark _)

pub returns-in-Some-clause-mark : goal.returns-in-Some-clause-mark
returns-in-Some-clause-mark g c = c.in-Rests.ensures.mark ∙ sym (c.in-Some.ensures.mark _)

pub returns-in-Some-flush-clause-mark : goal.returns-in-Some-flush-clause-mark
returns-in-Some-flush-clause-mark g c = c.in-Over.ensures.mark ∙ sym (c.in-Some-flush.ensures.mark _)

pub returns-in-None-flush-clause-unread : goal.returns-in-None-flush-clause-unread
returns-in-None-flush-clause-unread g c = inl c.in-None-flush.ensures.unread

pub returns-in-Finishes-clause-unread : goal.returns-in-Finishes-clause-unread
returns-in-Finishes-clause-unread g c = inl refl
