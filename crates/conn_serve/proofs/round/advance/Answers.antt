use Rattle.std.proofs.Common.{◌∙◌, sym, subst, ℕ}
use Rattle.hall.specs.Desks.{turns_of}
use Rattle.conn_serve.specs.Serving.{IsStanding}
use Rattle.conn_serve.proofs.Passing.{asked_once, counts_after, ends_unread, none_read, passed_on, read_on, read_once, read_passed, stands_on}
use Rattle.conn_serve.proofs.Turning.{starts_both}
use Rattle.conn_serve.proofs.round.advance.Goals as goal

pub read-requires-clause-rests : goal.read-requires-clause-rests
read-requires-clause-rests g c =
    let stands = c.requires.stands in
    (c.in-Goes.ensures.passed stands.site stands.place stands.line_is stands.accounts_are stands.at).3

pub read-requires-clause-none : goal.read-requires-clause-none
read-requires-clause-none g c =
    let stands = c.requires.stands in
    (c.in-Goes.ensures.passed stands.site stands.place stands.line_is stands.accounts_are stands.at).2

pub returns-in-Some-clause-passed : goal.returns-in-Some-clause-passed
returns-in-Some-clause-passed g c = λ o p line accounts at.
    let rests = c.in-Goes.ensures.passed o p line accounts at in
    read_passed o _ _ _ _ _ _ _ _ _ c.in-Some.round rests.0 rests.1 (λ q here. c.in-Some.ensures.read o q (turns_of (g.D.Desk.line c.args.pass.now)
    (g.D.Desk.seen c.handle.new.pass)) (g.I.Dice.drawn c.handle.new.dice)
    (g.I.Dice.faults c.handle.new.dice) here)

pub returns-in-Later-clause-once : goal.returns-in-Later-clause-once
returns-in-Later-clause-once g c = none_read _ _ c.in-Later.ensures.unread

pub returns-in-More-clause-once : goal.returns-in-More-clause-once
returns-in-More-clause-once g c = none_read _ _ c.in-More.ensures.unread

pub returns-in-Ends-clause-once : goal.returns-in-Ends-clause-once
returns-in-Ends-clause-once g c = ends_unread _ _ _ c.in-Ends.moment c.in-Ends.ensures.unread

pub returns-in-Exhausts-clause-once : goal.returns-in-Exhausts-clause-once
returns-in-Exhausts-clause-once g c = none_read _ _ c.in-Exhausts.ensures.unread

pub returns-in-Some-clause-once : goal.returns-in-Some-clause-once
returns-in-Some-clause-once g c = asked_once _ _ _ c.in-Some.round c.in-Goes.ensures.unread c.in-Some.ensures.once

pub returns-in-Some-clause-counts : goal.returns-in-Some-clause-counts
returns-in-Some-clause-counts g c = counts_after _ _ _ c.in-Some.round c.in-Goes.ensures.counts c.in-Some.ensures.counts

pub returns-in-Some-clause-mark : goal.returns-in-Some-clause-mark
returns-in-Some-clause-mark g c = c.in-Goes.ensures.mark ∙ sym (c.in-Some.ensures.mark _)

pub handle-requires-2-clause-stands : goal.handle-requires-2-clause-stands
handle-requires-2-clause-stands g c =
    let stands = c.requires.stands in
    let rests = c.in-Goes.ensures.passed stands.site stands.place stands.line_is stands.accounts_are stands.at in
    subst (λ (w : ℕ). IsStanding w c.args.accounts.now c.read.new.flow c.read.new.ears c.handle.new.owed) (sym c.in-Goes.ensures.line)
    (stands_on _ _ _ _ _ _ _ _ _ _ stands
    (read_on stands.site _ _ _ _ _ _ _ _ _ rests.0 rests.1 (λ q here. c.in-None.ensures.read stands.site q (turns_of (g.D.Desk.line c.args.pass.now)
    (g.D.Desk.seen c.handle.new.pass)) (g.I.Dice.drawn c.handle.new.dice)
    (g.I.Dice.faults c.handle.new.dice) here)))

pub returns-clause-passed : goal.returns-clause-passed
returns-clause-passed g c = λ o p line accounts at.
    let rests = c.in-Goes.ensures.passed o p line accounts at in
    let handled = rw c.in-Goes.ensures.line at c.handle-2.ensures.passed in
    passed_on o _ _ _ _ _ _ _ _ _ _ c.handle-2.result
    (read_on o _ _ _ _ _ _ _ _ _ rests.0 rests.1 (λ q here. c.in-None.ensures.read o q (turns_of (g.D.Desk.line c.args.pass.now)
    (g.D.Desk.seen c.handle.new.pass)) (g.I.Dice.drawn c.handle.new.dice)
    (g.I.Dice.faults c.handle.new.dice) here)) (λ q here. handled o q line accounts here)

pub returns-clause-once : goal.returns-clause-once
returns-clause-once g c = read_once _ _ _ _ c.handle-2.result c.in-Goes.ensures.unread c.in-None.ensures.once c.handle-2.ensures.unread

pub returns-clause-counts : goal.returns-clause-counts
returns-clause-counts g c = counts_after _ _ _ c.handle-2.result (c.in-None.ensures.counts ∙ c.in-Goes.ensures.counts) c.handle-2.ensures.counts

pub returns-clause-history : goal.returns-clause-history
returns-clause-history g c = starts_both _ _ _ c.in-Goes.ensures.history c.handle-2.ensures.history
