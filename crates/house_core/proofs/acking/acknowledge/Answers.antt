use Rattle.house_core.proofs.acking.acknowledge.Goals as goal

pub hear-requires-clause-small : goal.hear-requires-clause-small
hear-requires-clause-small c = c.check.ensures.few 18446744073709551614 c.requires.small
