use Rattle.house_model.proofs.EndingLaws.{endings_are}
use Rattle.house_model.proofs.laws.endings.Goals as goal

pub returns : goal.returns
returns c = endings_are
