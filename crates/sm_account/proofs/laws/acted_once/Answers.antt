use Rattle.sm_account.proofs.Promises.{acted_once}
use Rattle.sm_account.proofs.laws.acted_once.Goals as goal

pub returns : goal.returns
returns c at = acted_once
