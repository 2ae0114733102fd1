use Rattle.archive_table.proofs.GrowLemmas.{grow}
use Rattle.archive_table.proofs.laws.archives_grow.Goals as goal

pub returns : goal.returns
returns c = λ xs x. grow xs x
