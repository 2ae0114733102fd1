use Rattle.house_model.proofs.ArchivesKept.{always_archives, turn_archives}
use Rattle.house_model.proofs.FewRows.{few_rows}
use Rattle.house_model.proofs.laws.archives_stay_short.Goals as goal

pub returns-clause-history : goal.returns-clause-history
returns-clause-history c = always_archives

pub returns-clause-turn : goal.returns-clause-turn
returns-clause-turn c = turn_archives

pub returns-clause-few : goal.returns-clause-few
returns-clause-few c = few_rows
