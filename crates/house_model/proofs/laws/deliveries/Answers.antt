use Rattle.house_model.proofs.FullLaws.{deliveries}
use Rattle.house_model.proofs.laws.deliveries.Goals as goal

pub returns : goal.returns
returns c = deliveries
