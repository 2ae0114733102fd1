use Rattle.sm_resume.proofs.Decisions.{decision-counts}
use Rattle.sm_resume.proofs.laws.counts_decide_as_numbers.Goals as goal

pub returns : goal.returns
returns c = decision-counts
