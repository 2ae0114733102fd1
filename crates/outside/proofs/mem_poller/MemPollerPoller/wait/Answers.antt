use Rattle.std.proofs.Common.{rules, List, [], ◌∷◌, length, ap, subst, ◌∙◌}
use Rattle.outside.specs.declared.poller.Rung.{Rung}
use Rattle.outside.specs.Links.{LinkState}
use Rattle.outside.specs.Polls.{SeatState, rung_of, seat_at}
use Rattle.outside.specs.Tapes.{Tells}
use Rattle.outside.proofs.PollLemmas.{waits_keep}
use Rattle.outside.proofs.mem_poller.MemPollerPoller.wait.Goals as goal

pub returns-clause-rung : goal.returns-clause-rung
returns-clause-rung g c =
    let kept = waits_keep c.args.self.now c.next_ring-ring.new.self c.next_ring-ring.result c.next_ring-ring.ensures.waits in
    subst (λ r. Tells Rung r c.tell.new.self.rung (rung_of LinkState c.next_ring-ring.result ∷ [])) kept.rung
    (search (rules, c.tell.ensures.tells))

pub returns-clause-places : goal.returns-clause-places
returns-clause-places g c =
    let kept = waits_keep c.args.self.now c.next_ring-ring.new.self c.next_ring-ring.result c.next_ring-ring.ensures.waits in
    ap (λ (ps : List SeatState). length ps) c.tell.ensures.places ∙ kept.places

pub returns-clause-quota : goal.returns-clause-quota
returns-clause-quota g c =
    let kept = waits_keep c.args.self.now c.next_ring-ring.new.self c.next_ring-ring.result c.next_ring-ring.ensures.waits in
    c.tell.ensures.quota ∙ kept.quota

pub returns-clause-tapes : goal.returns-clause-tapes
returns-clause-tapes g c = λ k.
    let kept = waits_keep c.args.self.now c.next_ring-ring.new.self c.next_ring-ring.result c.next_ring-ring.ensures.waits in
    ap (λ (ps : List SeatState). (seat_at ps k).tapes) c.tell.ensures.places ∙ kept.tapes k
