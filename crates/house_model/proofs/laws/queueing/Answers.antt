use Rattle.house_model.proofs.QueueLaws.{queueing}
use Rattle.house_model.proofs.laws.queueing.Goals as goal

pub returns : goal.returns
returns c o h s starts = queueing o h starts s
