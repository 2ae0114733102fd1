use Rattle.turn_lock.proofs.Places.{one_turn}
use Rattle.turn_lock.proofs.laws.a_turn_adds_one_entry.Goals as goal

pub returns : goal.returns
returns c at = one_turn
