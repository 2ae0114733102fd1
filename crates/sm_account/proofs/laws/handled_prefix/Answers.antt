use Rattle.sm_account.proofs.Promises.{handled_prefix}
use Rattle.sm_account.proofs.laws.handled_prefix.Goals as goal

pub returns : goal.returns
returns c at = handled_prefix
