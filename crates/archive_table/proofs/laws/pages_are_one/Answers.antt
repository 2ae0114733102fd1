use Rattle.archive_table.proofs.ShownLemmas.{one-page, shown-named}
use Rattle.archive_table.proofs.laws.pages_are_one.Goals as goal

pub returns-clause-page : goal.returns-clause-page
returns-clause-page c = λ rows f ask page is. one-page rows f ask page is

pub returns-clause-rows : goal.returns-clause-rows
returns-clause-rows c = λ n rows f ask follow. shown-named n rows f ask follow
