use Rattle.house_model.proofs.ArchiveNumbers.{always_numbered}
use Rattle.house_model.proofs.laws.archives_are_numbered.Goals as goal

pub returns : goal.returns
returns c = always_numbered
