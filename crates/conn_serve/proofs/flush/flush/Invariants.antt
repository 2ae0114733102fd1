use Rattle.std.proofs.Common.{length, ◌≡◌, ℕ, List}
use Rattle.std.specs.Prelude.{Option}
use Rattle.house_model.specs.Histories.{Turn}
use Rattle.conn_flow.specs.Duties.{Duty, Site}
use Rattle.conn_serve.specs.Serving.{Grew, tale}
use Rattle.conn_serve.proofs.flush.flush.Given as goal

abbrev pub invariant-loop-link : goal.invariant-loop-link
invariant-loop-link g l = record {
  clock : g.C.Clock.told l.clock ≡ g.C.Clock.told l.fn.clock;
  counts : g.L.Link.laters l.link ≡ g.L.Link.laters l.fn.link;
  said : (o : Site) (v : Duty) (turns : List Turn) (drawn : Option (List (List ℕ))) (dice : ℕ) → v.owed ≡ l.fn.owed
      → Grew o (tale (g.L.Link.tape l.fn.link) turns (g.C.Clock.told l.fn.clock) drawn (g.L.Link.faults l.fn.link) (g.L.Link.ends l.fn.link) dice) v
      (tale (g.L.Link.tape l.link) turns (g.C.Clock.told l.clock) drawn (g.L.Link.faults l.link) (g.L.Link.ends l.link) dice)
      (record v { owed = l.owed });
}

abbrev pub decreases-loop-link : goal.decreases-loop-link
decreases-loop-link g l = length l.owed
