use Rattle.std.proofs.Common.{arith}
use Rattle.contact_table.specs.Tables.{book_after}
use Rattle.contact_table.proofs.EntryLemmas.{room_is, spare_is}
use Rattle.contact_table.proofs.book.Book.apply.Goals as goal

pub note-requires-clause-room : goal.note-requires-clause-room
note-requires-clause-room c u =
    let before = spare_is u c.args.self.now c.self.inside.folders.entries c.self.inside.domain (book_after c.self.inside.log.entries) c.self.view_is in
    omega (arith, before, c.requires u)

pub returns-clause-room : goal.returns-clause-room
returns-clause-room c u =
    let before = spare_is u c.args.self.now c.self.inside.folders.entries c.self.inside.domain (book_after c.self.inside.log.entries) c.self.view_is in
    let after = room_is u c.note.new.folders.entries in
    omega (arith, before, after, c.note.ensures.room u)
