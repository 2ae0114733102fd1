use Rattle.house_model.proofs.ClosingLaws.{closings_are}
use Rattle.house_model.proofs.laws.closings.Goals as goal

pub returns : goal.returns
returns c = λ o h starts legal. closings_are o h starts
