use Rattle.std.proofs.Common.{ap, ◌∙◌}
use Rattle.archive_table.specs.Tables.{user_archive}
use Rattle.archive_table.proofs.table.Archives.of_user.Goals as goal

pub returns : goal.returns
returns c = c.find.ensures ∙ ap (λ t. user_archive c.args.user.now t.users) c.self.view_is
