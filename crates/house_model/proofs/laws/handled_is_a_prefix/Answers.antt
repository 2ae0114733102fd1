use Rattle.house_model.proofs.Prefixes.{handled_is}
use Rattle.house_model.proofs.laws.handled_is_a_prefix.Goals as goal

pub returns : goal.returns
returns c = handled_is
