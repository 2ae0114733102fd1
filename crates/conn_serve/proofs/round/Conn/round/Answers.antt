use Rattle.std.proofs.Common.{ap, inr, refl, sym, ◌∙◌}
use Rattle.outside.specs.Plans.{raised}
use Rattle.hall.specs.Desks.{turns_of}
use Rattle.flow_laws.specs.Standing.{duty}
use Rattle.conn_asks.specs.declared.ended.Ended.TheVariants as ended
use Rattle.conn_serve.specs.declared.turn.Round.TheVariants.{Goes, Later, More, Ends, Exhausts}
use Rattle.conn_serve.proofs.Growing.{exhausted_after, finished_after}
use Rattle.conn_serve.proofs.Passing.{asked_once, counts_after, ends_later, flushed_once, flushed_round, lost_rest, owes_at, passed_after, passed_owing, resumed, stands_on, starts_on}
use Rattle.conn_serve.proofs.Turning.{rests_here}
use Rattle.conn_serve.proofs.round.Conn.round.Goals as goal

pub returns-in-Some-clause-passed : goal.returns-in-Some-clause-passed
returns-in-Some-clause-passed g c = λ o p line accounts at.
    flushed_round o _ _ _ _ _ _ _ _ c.in-Some.round (rests_here o _ p _ _ _ at)
    (c.in-Some.ensures.flushed o (duty o p) (turns_of (g.D.Desk.line c.args.pass.now) (g.D.Desk.seen c.args.pass.now)) (g.I.Dice.drawn c.args.dice.now)
    (g.I.Dice.faults c.args.dice.now) (owes_at o p _ _ _ at))

pub returns-in-Some-clause-resumes : goal.returns-in-Some-clause-resumes
returns-in-Some-clause-resumes g c = λ o p line accounts at.
    inr (record { turns_are = refl; drawn = refl; flow_is = refl; ahead_is = refl })

pub returns-in-Some-clause-once : goal.returns-in-Some-clause-once
returns-in-Some-clause-once g c =
    let stands = c.requires.stands in
    flushed_once stands.site _ _ _ _ _ _ c.in-Some.round
    (c.in-Some.ensures.flushed stands.site (duty stands.site stands.place) (turns_of (g.D.Desk.line c.args.pass.now)
    (g.D.Desk.seen c.args.pass.now)) (g.I.Dice.drawn c.args.dice.now)
    (g.I.Dice.faults c.args.dice.now) (owes_at stands.site stands.place _ _ _ stands.at)) c.in-Some.ensures.unread

pub returns-in-Goes-clause-once : goal.returns-in-Goes-clause-once
returns-in-Goes-clause-once g c = asked_once _ _ _ Goes c.in-None.ensures.unread c.in-Goes.ensures.once

pub returns-in-More-clause-once : goal.returns-in-More-clause-once
returns-in-More-clause-once g c = asked_once _ _ _ More c.in-None.ensures.unread c.in-More.ensures.once

pub returns-in-Ok-clause-once : goal.returns-in-Ok-clause-once
returns-in-Ok-clause-once g c = asked_once _ _ _ Later c.in-None.ensures.unread c.in-Later.ensures.once

pub returns-in-Err-clause-once : goal.returns-in-Err-clause-once
returns-in-Err-clause-once g c = ends_later _ _ _ c.moment.result (asked_once _ _ _ Later c.in-None.ensures.unread c.in-Later.ensures.once)

pub returns-in-Ends-clause-once : goal.returns-in-Ends-clause-once
returns-in-Ends-clause-once g c = asked_once _ _ _ (Ends c.in-Ends.ended c.in-Ends.moment) c.in-None.ensures.unread c.in-Ends.ensures.once

pub returns-in-Exhausts-clause-once : goal.returns-in-Exhausts-clause-once
returns-in-Exhausts-clause-once g c = asked_once _ _ _ Exhausts c.in-None.ensures.unread c.in-Exhausts.ensures.once

pub returns-in-Some-clause-mark : goal.returns-in-Some-clause-mark
returns-in-Some-clause-mark g c = sym (c.in-Some.ensures.mark _)

pub advance-requires-clause-stands : goal.advance-requires-clause-stands
advance-requires-clause-stands g c =
    let stands = c.requires.stands in
    stands_on _ _ _ _ _ _ _ _ _ _ stands
    (starts_on stands.site _ _ stands.place _ _ _ _ _ stands.at
    (c.in-None.ensures.flushed stands.site (duty stands.site stands.place) (turns_of (g.D.Desk.line c.args.pass.now)
    (g.D.Desk.seen c.args.pass.now)) (g.I.Dice.drawn c.args.dice.now)
    (g.I.Dice.faults c.args.dice.now) (owes_at stands.site stands.place _ _ _ stands.at)) c.requires.said)

pub returns-in-Goes-clause-passed : goal.returns-in-Goes-clause-passed
returns-in-Goes-clause-passed g c = rw c.rest.ensures (λ o p line accounts at.
    let start = starts_on o _ _ p _ _ _ _ _ at
    (c.in-None.ensures.flushed o (duty o p) (turns_of (g.D.Desk.line c.args.pass.now) (g.D.Desk.seen c.args.pass.now)) (g.I.Dice.drawn c.args.dice.now)
    (g.I.Dice.faults c.args.dice.now) (owes_at o p _ _ _ at)) c.requires.said in
    passed_after o _ _ _ _ _ _ _ _ Goes start.grew
    (passed_owing o _ _ _ _ _ _ _ Goes ((c.in-Goes.ensures.passed o start.to line accounts start.at).1 ∙ sym c.new.ensures)
    (c.in-Goes.ensures.passed o start.to line accounts start.at)))

pub returns-in-Goes-clause-resumes : goal.returns-in-Goes-clause-resumes
returns-in-Goes-clause-resumes g c = rw c.rest.ensures (λ o p line accounts at.
    let start = starts_on o _ _ p _ _ _ _ _ at
    (c.in-None.ensures.flushed o (duty o p) (turns_of (g.D.Desk.line c.args.pass.now) (g.D.Desk.seen c.args.pass.now)) (g.I.Dice.drawn c.args.dice.now)
    (g.I.Dice.faults c.args.dice.now) (owes_at o p _ _ _ at)) c.requires.said in
    resumed o _ _ _ _ _ _ _ _ _ _ Goes start c.requires.said refl refl
    (λ q here. passed_owing o _ _ _ _ _ _ _ Goes ((c.in-Goes.ensures.passed o q line accounts here).1 ∙ sym c.new.ensures)
    (c.in-Goes.ensures.passed o q line accounts here)))

pub returns-in-Goes-clause-counts : goal.returns-in-Goes-clause-counts
returns-in-Goes-clause-counts g c = counts_after _ _ _ Goes c.in-None.ensures.counts c.in-Goes.ensures.counts

pub returns-in-More-clause-passed : goal.returns-in-More-clause-passed
returns-in-More-clause-passed g c = λ o p line accounts at.
    let start = starts_on o _ _ p _ _ _ _ _ at
    (c.in-None.ensures.flushed o (duty o p) (turns_of (g.D.Desk.line c.args.pass.now) (g.D.Desk.seen c.args.pass.now)) (g.I.Dice.drawn c.args.dice.now)
    (g.I.Dice.faults c.args.dice.now) (owes_at o p _ _ _ at)) c.requires.said in
    passed_after o _ _ _ _ _ _ _ _ More start.grew
    (passed_owing o _ _ _ _ _ _ _ More ((c.in-More.ensures.passed o start.to line accounts start.at).1 ∙ sym c.new.ensures)
    (c.in-More.ensures.passed o start.to line accounts start.at))

pub returns-in-More-clause-resumes : goal.returns-in-More-clause-resumes
returns-in-More-clause-resumes g c = λ o p line accounts at.
    let start = starts_on o _ _ p _ _ _ _ _ at
    (c.in-None.ensures.flushed o (duty o p) (turns_of (g.D.Desk.line c.args.pass.now) (g.D.Desk.seen c.args.pass.now)) (g.I.Dice.drawn c.args.dice.now)
    (g.I.Dice.faults c.args.dice.now) (owes_at o p _ _ _ at)) c.requires.said in
    resumed o _ _ _ _ _ _ _ _ _ _ More start c.requires.said refl refl
    (λ q here. passed_owing o _ _ _ _ _ _ _ More ((c.in-More.ensures.passed o q line accounts here).1 ∙ sym c.new.ensures)
    (c.in-More.ensures.passed o q line accounts here))

pub returns-in-More-clause-counts : goal.returns-in-More-clause-counts
returns-in-More-clause-counts g c = counts_after _ _ _ More c.in-None.ensures.counts c.in-More.ensures.counts

pub returns-in-Ok-clause-passed : goal.returns-in-Ok-clause-passed
returns-in-Ok-clause-passed g c = λ o p line accounts at.
    let start = starts_on o _ _ p _ _ _ _ _ at
    (c.in-None.ensures.flushed o (duty o p) (turns_of (g.D.Desk.line c.args.pass.now) (g.D.Desk.seen c.args.pass.now)) (g.I.Dice.drawn c.args.dice.now)
    (g.I.Dice.faults c.args.dice.now) (owes_at o p _ _ _ at)) c.requires.said in
    passed_after o _ _ _ _ _ _ _ _ Later start.grew
    (passed_owing o _ _ _ _ _ _ _ Later (sym c.in-Ok.ensures)
    (c.in-Later.ensures.passed o start.to line accounts start.at))

pub returns-in-Ok-clause-resumes : goal.returns-in-Ok-clause-resumes
returns-in-Ok-clause-resumes g c = λ o p line accounts at.
    let start = starts_on o _ _ p _ _ _ _ _ at
    (c.in-None.ensures.flushed o (duty o p) (turns_of (g.D.Desk.line c.args.pass.now) (g.D.Desk.seen c.args.pass.now)) (g.I.Dice.drawn c.args.dice.now)
    (g.I.Dice.faults c.args.dice.now) (owes_at o p _ _ _ at)) c.requires.said in
    resumed o _ _ _ _ _ _ _ _ _ _ Later start c.requires.said refl refl
    (λ q here. passed_owing o _ _ _ _ _ _ _ Later (sym c.in-Ok.ensures)
    (c.in-Later.ensures.passed o q line accounts here))

pub returns-in-Ok-clause-counts : goal.returns-in-Ok-clause-counts
returns-in-Ok-clause-counts g c = counts_after _ _ _ Later c.in-None.ensures.counts c.in-Later.ensures.counts

pub returns-in-Err-clause-passed : goal.returns-in-Err-clause-passed
returns-in-Err-clause-passed g c = λ o p line accounts at.
    let start = starts_on o _ _ p _ _ _ _ _ at
    (c.in-None.ensures.flushed o (duty o p) (turns_of (g.D.Desk.line c.args.pass.now) (g.D.Desk.seen c.args.pass.now)) (g.I.Dice.drawn c.args.dice.now)
    (g.I.Dice.faults c.args.dice.now) (owes_at o p _ _ _ at)) c.requires.said in
    finished_after start.grew (lost_rest o _ _ _ _ _ _ _ (c.in-Later.ensures.passed o start.to line accounts start.at).0
    (c.in-Later.ensures.passed o start.to line accounts start.at).1 c.moment.ensures)

pub returns-in-Err-clause-resumes : goal.returns-in-Err-clause-resumes
returns-in-Err-clause-resumes g c = λ o p line accounts at.
    let start = starts_on o _ _ p _ _ _ _ _ at
    (c.in-None.ensures.flushed o (duty o p) (turns_of (g.D.Desk.line c.args.pass.now) (g.D.Desk.seen c.args.pass.now)) (g.I.Dice.drawn c.args.dice.now)
    (g.I.Dice.faults c.args.dice.now) (owes_at o p _ _ _ at)) c.requires.said in
    resumed o _ _ _ _ _ _ _ _ _ _ (Ends ended.NoMemory c.moment.result) start c.requires.said refl refl
    (λ q here. lost_rest o _ _ _ _ _ _ _ (c.in-Later.ensures.passed o q line accounts here).0
    (c.in-Later.ensures.passed o q line accounts here).1 c.moment.ensures)

pub returns-in-Ends-clause-passed : goal.returns-in-Ends-clause-passed
returns-in-Ends-clause-passed g c = λ o p line accounts at.
    let start = starts_on o _ _ p _ _ _ _ _ at
    (c.in-None.ensures.flushed o (duty o p) (turns_of (g.D.Desk.line c.args.pass.now) (g.D.Desk.seen c.args.pass.now)) (g.I.Dice.drawn c.args.dice.now)
    (g.I.Dice.faults c.args.dice.now) (owes_at o p _ _ _ at)) c.requires.said in
    finished_after start.grew ((c.in-Ends.ensures.passed o start.to line accounts start.at))

pub returns-in-Ends-clause-resumes : goal.returns-in-Ends-clause-resumes
returns-in-Ends-clause-resumes g c = λ o p line accounts at.
    let start = starts_on o _ _ p _ _ _ _ _ at
    (c.in-None.ensures.flushed o (duty o p) (turns_of (g.D.Desk.line c.args.pass.now) (g.D.Desk.seen c.args.pass.now)) (g.I.Dice.drawn c.args.dice.now)
    (g.I.Dice.faults c.args.dice.now) (owes_at o p _ _ _ at)) c.requires.said in
    resumed o _ _ _ _ _ _ _ _ _ _ (Ends c.in-Ends.ended c.in-Ends.moment) start c.requires.said refl refl
    (λ q here. (c.in-Ends.ensures.passed o q line accounts here))

pub returns-in-Exhausts-clause-passed : goal.returns-in-Exhausts-clause-passed
returns-in-Exhausts-clause-passed g c = λ o p line accounts at.
    let start = starts_on o _ _ p _ _ _ _ _ at
    (c.in-None.ensures.flushed o (duty o p) (turns_of (g.D.Desk.line c.args.pass.now) (g.D.Desk.seen c.args.pass.now)) (g.I.Dice.drawn c.args.dice.now)
    (g.I.Dice.faults c.args.dice.now) (owes_at o p _ _ _ at)) c.requires.said in
    exhausted_after start.grew ((c.in-Exhausts.ensures.passed o start.to line accounts start.at))

pub returns-in-Exhausts-clause-resumes : goal.returns-in-Exhausts-clause-resumes
returns-in-Exhausts-clause-resumes g c = λ o p line accounts at.
    let start = starts_on o _ _ p _ _ _ _ _ at
    (c.in-None.ensures.flushed o (duty o p) (turns_of (g.D.Desk.line c.args.pass.now) (g.D.Desk.seen c.args.pass.now)) (g.I.Dice.drawn c.args.dice.now)
    (g.I.Dice.faults c.args.dice.now) (owes_at o p _ _ _ at)) c.requires.said in
    resumed o _ _ _ _ _ _ _ _ _ _ Exhausts start c.requires.said refl refl
    (λ q here. (c.in-Exhausts.ensures.passed o q line accounts here))

pub returns-in-Exhausts-clause-counts : goal.returns-in-Exhausts-clause-counts
returns-in-Exhausts-clause-counts g c = counts_after _ _ _ Exhausts c.in-None.ensures.counts c.in-Exhausts.ensures.counts

pub returns-in-Goes-clause-said : goal.returns-in-Goes-clause-said
returns-in-Goes-clause-said g c =
    let stands = c.requires.stands in
    let start = starts_on stands.site _ _ stands.place _ _ _ _ _ stands.at
    (c.in-None.ensures.flushed stands.site (duty stands.site stands.place) (turns_of (g.D.Desk.line c.args.pass.now) (g.D.Desk.seen c.args.pass.now))
    (g.I.Dice.drawn c.args.dice.now) (g.I.Dice.faults c.args.dice.now) (owes_at stands.site stands.place _ _ _ stands.at)) c.requires.said in
    (c.in-Goes.ensures.passed stands.site start.to stands.line_is stands.accounts_are start.at).1

pub returns-in-More-clause-said : goal.returns-in-More-clause-said
returns-in-More-clause-said g c =
    let stands = c.requires.stands in
    let start = starts_on stands.site _ _ stands.place _ _ _ _ _ stands.at
    (c.in-None.ensures.flushed stands.site (duty stands.site stands.place) (turns_of (g.D.Desk.line c.args.pass.now) (g.D.Desk.seen c.args.pass.now))
    (g.I.Dice.drawn c.args.dice.now) (g.I.Dice.faults c.args.dice.now) (owes_at stands.site stands.place _ _ _ stands.at)) c.requires.said in
    (c.in-More.ensures.passed stands.site start.to stands.line_is stands.accounts_are start.at).1

pub returns-in-Err-clause-counts : goal.returns-in-Err-clause-counts
returns-in-Err-clause-counts g c = inr (c.in-Later.ensures.counts ∙ ap raised c.in-None.ensures.counts)
