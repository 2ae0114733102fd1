use Rattle.sm_account.proofs.Carried.{carries_from}
use Rattle.sm_account.proofs.Promises.{count_is_named, goes_on}
use Rattle.sm_account.proofs.laws.resumption.Goals as goal

pub returns-clause-counted : goal.returns-clause-counted
returns-clause-counted c at = count_is_named

pub returns-clause-handled : goal.returns-clause-handled
returns-clause-handled c at = goes_on

pub returns-clause-carries : goal.returns-clause-carries
returns-clause-carries c at = carries_from
