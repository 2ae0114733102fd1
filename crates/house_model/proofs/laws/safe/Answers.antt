use Rattle.house_model.proofs.SafeLaws.{safe}
use Rattle.house_model.proofs.laws.safe.Goals as goal

pub returns : goal.returns
returns c = safe
