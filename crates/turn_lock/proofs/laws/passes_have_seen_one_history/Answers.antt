use Rattle.turn_lock.proofs.Places.{one_history}
use Rattle.turn_lock.proofs.laws.passes_have_seen_one_history.Goals as goal

pub returns : goal.returns
returns c at = one_history
