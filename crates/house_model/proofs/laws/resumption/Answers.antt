use Rattle.house_model.proofs.SafeLaws.{resumption}
use Rattle.house_model.proofs.laws.resumption.Goals as goal

pub returns : goal.returns
returns c = resumption
