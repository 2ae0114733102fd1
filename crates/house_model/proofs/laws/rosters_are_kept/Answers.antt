use Rattle.house_model.proofs.BookKept.{always_kept}
use Rattle.house_model.proofs.laws.rosters_are_kept.Goals as goal

pub returns : goal.returns
returns c = always_kept
