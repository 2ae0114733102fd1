use Rattle.std.proofs.Common.{◌+◌, ap, sym, ◌∙◌}
use Rattle.archive_table.specs.Entries.{rooms_of}
use Rattle.archive_table.specs.Tables.{room_texts}
use Rattle.archive_table.proofs.EntryLemmas.{texts_in}
use Rattle.archive_table.proofs.RoomLemmas.{room-at, room-texts-out}
use Rattle.archive_table.proofs.rooms.take_out.Goals as goal

pub returns-clause-value : goal.returns-clause-value
returns-clause-value c = c.swap_remove.ensures.value ∙ sym (room-at c.args.room c.args.rooms.now.entries)

pub returns-clause-texts : goal.returns-clause-texts
returns-clause-texts c =
    let es = c.args.rooms.now.entries in
    let new = c.swap_remove.new.self.entries in
    ap (λ o. room_texts (rooms_of new) + texts_in o) (c.swap_remove.ensures.value ∙ sym (room-at c.args.room es))
    ∙ room-texts-out c.args.room es new c.swap_remove.ensures.entries
