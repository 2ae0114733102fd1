use Rattle.house_model.proofs.Prefixes.{acted_is}
use Rattle.house_model.proofs.laws.acted_once.Goals as goal

pub returns : goal.returns
returns c = acted_is
