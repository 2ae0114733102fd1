use Rattle.std.proofs.Common.{refl}
use Rattle.sm_account.proofs.StanzasResumed.{all_are_acted_on, stanzas_are_an_account, stanzas_come_again}
use Rattle.sm_account.proofs.stories.counts_inward.Goals as goal

pub returns-clause-account : goal.returns-clause-account
returns-clause-account g at = stanzas_are_an_account

pub returns-clause-told : goal.returns-clause-told
returns-clause-told g at c early one two three = refl

pub returns-clause-came : goal.returns-clause-came
returns-clause-came g at = stanzas_come_again

pub returns-clause-acted : goal.returns-clause-acted
returns-clause-acted g at = all_are_acted_on
