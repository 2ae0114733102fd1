use Rattle.sm_counters.proofs.CountLaws.{number-count_of}
use Rattle.sm_counters.proofs.laws.no_wrap_is_mistaken.Goals as goal

pub returns : goal.returns
returns c = number-count_of
