use Rattle.std.proofs.Common.{ap, ◌∙◌}
use Rattle.archive_table.specs.Tables.{room_archive}
use Rattle.archive_table.proofs.table.Archives.of_room.Goals as goal

pub returns : goal.returns
returns c = c.find.ensures ∙ ap (λ t. room_archive c.args.room t.rooms) c.self.view_is
