use Rattle.std.proofs.Common.{sym, ◌∙◌}
use Rattle.archive_table.proofs.RoomLemmas.{room-at}
use Rattle.archive_table.proofs.rooms.find.Goals as goal

pub returns : goal.returns
returns c = c.get.ensures.value ∙ sym (room-at c.args.room c.args.rooms.now.entries)
