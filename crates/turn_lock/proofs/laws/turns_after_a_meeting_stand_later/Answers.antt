use Rattle.turn_lock.proofs.Places.{later_turn}
use Rattle.turn_lock.proofs.laws.turns_after_a_meeting_stand_later.Goals as goal

pub returns : goal.returns
returns c at = later_turn
