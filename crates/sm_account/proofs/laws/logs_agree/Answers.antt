use Rattle.sm_account.specs.Connections.{start}
use Rattle.sm_account.proofs.Histories.{start_acted, start_all_are, start_given, start_taken, start_told}
use Rattle.sm_account.proofs.Grows.{core_of_run}
use Rattle.sm_account.proofs.laws.logs_agree.Goals as goal

pub returns-clause-core : goal.returns-clause-core
returns-clause-core c at = core_of_run start

pub returns-clause-given : goal.returns-clause-given
returns-clause-given c at = start_given

pub returns-clause-taken : goal.returns-clause-taken
returns-clause-taken c at = start_taken

pub returns-clause-acted : goal.returns-clause-acted
returns-clause-acted c at = start_acted

pub returns-clause-told : goal.returns-clause-told
returns-clause-told c at = start_told

pub returns-clause-each : goal.returns-clause-each
returns-clause-each c at = start_all_are
