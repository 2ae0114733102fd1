use Rattle.std.proofs.Common.{◌≤◌, ℕ, OnOk, sym, subst, arith}
use Rattle.contact_table.specs.Tables.{book_after}
use Rattle.contact_table.proofs.EntryLemmas.{room_is, room_kept, spare_is}
use Rattle.contact_table.proofs.book.Book.reserve.Goals as goal

pub returns-in_err-open-clause-keeps_room : goal.returns-in_err-open-clause-keeps_room
returns-in_err-open-clause-keeps_room c u =
    let before = spare_is u c.args.self.now c.self.inside.folders.entries c.self.inside.domain (book_after c.self.inside.log.entries) c.self.view_is in
    let after = room_is u c.open.new.folders.entries in
    omega (arith, before, after, c.open.ensures.room u)

pub returns-clause-room : goal.returns-clause-room
returns-clause-room c =
    subst (λ (n : ℕ). OnOk c.reserve.result (c.args.changes ≤ n)) (sym (room_is c.args.user.now c.reserve.new.folders.entries)) c.reserve.ensures.room

pub returns-clause-keeps_room : goal.returns-clause-keeps_room
returns-clause-keeps_room c u =
    let before = spare_is u c.args.self.now c.self.inside.folders.entries c.self.inside.domain (book_after c.self.inside.log.entries) c.self.view_is in
    let after = room_is u c.reserve.new.folders.entries in
    let kept = room_kept c.args.user.now c.open.new.folders.entries c.reserve.new.folders.entries c.reserve.ensures.edits u in
    omega (arith, before, after, kept, c.open.ensures.room u)
