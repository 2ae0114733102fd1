use Rattle.std.proofs.Common.{refl}
use Rattle.conn_serve.specs.declared.turn.Round.TheVariants.{Goes, Later, More, Ends, Exhausts}
use Rattle.many_links.proofs.begin.go_on.Goals as goal

pub returns-in-Goes-clause-went : goal.returns-in-Goes-clause-went
returns-in-Goes-clause-went g c = λ o p line accounts at. (c.in-Goes.ensures.passed o p line accounts at).0

pub returns-in-Later-clause-went : goal.returns-in-Later-clause-went
returns-in-Later-clause-went g c = λ o p line accounts at. (c.in-Later.ensures.passed o p line accounts at).0

pub returns-in-More-clause-went : goal.returns-in-More-clause-went
returns-in-More-clause-went g c = λ o p line accounts at.
    rw c.ring.ensures.tape (rw c.ring.ensures.faults (rw c.ring.ensures.ends (c.in-More.ensures.passed o p line accounts at).0))

pub returns-in-Ends-clause-went : goal.returns-in-Ends-clause-went
returns-in-Ends-clause-went g c = λ o p line accounts at. c.in-Ends.ensures.passed o p line accounts at

pub returns-in-Exhausts-clause-went : goal.returns-in-Exhausts-clause-went
returns-in-Exhausts-clause-went g c = λ o p line accounts at. c.in-Exhausts.ensures.passed o p line accounts at

pub returns-in-Goes-clause-round : goal.returns-in-Goes-clause-round
returns-in-Goes-clause-round g c = record { round = Goes; once = c.in-Goes.ensures.once; goes = refl }

pub returns-in-Later-clause-round : goal.returns-in-Later-clause-round
returns-in-Later-clause-round g c = record { round = Later; once = c.in-Later.ensures.once; goes = refl }

pub returns-in-More-clause-round : goal.returns-in-More-clause-round
returns-in-More-clause-round g c = record { round = More; once = c.in-More.ensures.once; goes = refl }

pub returns-in-Ends-clause-round : goal.returns-in-Ends-clause-round
returns-in-Ends-clause-round g c = record { round = Ends c.in-Ends.ended c.in-Ends.moment; once = c.in-Ends.ensures.once; goes = refl }

pub returns-in-Exhausts-clause-round : goal.returns-in-Exhausts-clause-round
returns-in-Exhausts-clause-round g c = record { round = Exhausts; once = c.in-Exhausts.ensures.once; goes = refl }
