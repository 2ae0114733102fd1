use Rattle.std.proofs.Common.{rules, sym, ◌∙◌}
use Rattle.outside.proofs.CleanPollLemmas.{new_rings, ready_rings, shut_rings}
use Rattle.outside.proofs.clean_poller.CleanPoller.ring.Goals as goal

pub returns-in-Some-clause-rings : goal.returns-in-Some-clause-rings
returns-in-Some-clause-rings c =
    new_rings c.args.self.now c.bring.new.self c.bring.result c.in-Some.k (sym c.open_place.ensures ∙ c.in-Some.is) c.bring.ensures

pub returns-in-Some-next_taken-clause-rings : goal.returns-in-Some-next_taken-clause-rings
returns-in-Some-next_taken-clause-rings c =
    ready_rings c.args.self.now c.ring_at.new.self c.ring_at.result c.in-Some-next_taken.k (sym c.next_taken.ensures ∙ c.in-Some-next_taken.is)
    c.ring_at.ensures

pub returns-in-None-next_taken-clause-rings : goal.returns-in-None-next_taken-clause-rings
returns-in-None-next_taken-clause-rings c = shut_rings c.args.self.now (search rules) (search rules) c.requires
