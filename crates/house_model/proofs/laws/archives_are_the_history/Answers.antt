use Rattle.house_model.proofs.ArchiveTurns.{archives_are_kept}
use Rattle.house_model.proofs.laws.archives_are_the_history.Goals as goal

pub returns : goal.returns
returns c = archives_are_kept
