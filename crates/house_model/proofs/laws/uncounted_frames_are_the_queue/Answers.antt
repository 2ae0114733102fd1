use Rattle.house_model.proofs.FrontTurns.{frames_are_the_queue}
use Rattle.house_model.proofs.laws.uncounted_frames_are_the_queue.Goals as goal

pub returns : goal.returns
returns c = frames_are_the_queue
