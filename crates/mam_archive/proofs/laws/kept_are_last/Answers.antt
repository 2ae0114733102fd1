use Rattle.mam_archive.proofs.LastLemmas.{last-more}
use Rattle.mam_archive.proofs.laws.kept_are_last.Goals as goal

pub returns : goal.returns
returns c = λ all row. last-more all row
