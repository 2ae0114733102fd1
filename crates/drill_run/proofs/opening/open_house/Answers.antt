use Rattle.std.proofs.Common.{ap, ◌∙◌}
use Rattle.std.specs.List.{list_all}
use Rattle.jid_core.specs.Names.{are_distinct}
use Rattle.jid_core.specs.Preparation.{is_local}
use Rattle.drill_run.proofs.Openings.{users_differ, users_local}
use Rattle.drill_run.proofs.opening.open_house.Goals as goal

pub new-requires-clause-prepared : goal.new-requires-clause-prepared
new-requires-clause-prepared c = ap (list_all is_local) (c.as_slice.ensures.value ∙ c.in_ok-users.ensures) ∙ users_local

pub new-requires-clause-differ : goal.new-requires-clause-differ
new-requires-clause-differ c = ap are_distinct (c.as_slice.ensures.value ∙ c.in_ok-users.ensures) ∙ users_differ
