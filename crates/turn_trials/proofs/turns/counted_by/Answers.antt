use Rattle.std.proofs.Common.{arith, ◌≡◌, ◌++◌, length, take, drop}
use Rattle.std.proofs.lemmas.Grind.{common_steps}
use Rattle.turn_trials.proofs.turns.counted_by.Goals as goal

pub closed-requires-clause-idle : goal.closed-requires-clause-idle
closed-requires-clause-idle g c =
    let new = c.count_side_by_side.new.passes in
    let same : take c.in_ok-lock.all.len (new ++ drop (length new) c.in_ok-lock.all.items) ≡ new = grind (arith, common_steps) in
    rw same c.count_side_by_side.ensures
