use Rattle.std.proofs.Common.{is_some}
use Rattle.contact_table.specs.Marks.{seeing}
use Rattle.contact_table.proofs.EntryLemmas.{edited_here, room_here}
use Rattle.contact_table.proofs.folders.see.Goals as goal

pub see-requires-clause-room : goal.see-requires-clause-room
see-requires-clause-room c = room_here c.bytes.result.now c.args.user.now c.args.folders.now.entries c.in-Some.folder.now c.bytes.ensures.bytes
    c.in-Some.ensures.value c.requires.room

pub returns-in-Some : goal.returns-in-Some
returns-in-Some c =
    let f = c.in-Some.folder.now in
    let g = c.see.new.self in
    edited_here c.bytes.result.now c.args.user.now (seeing c.args.domain.now c.args.other.now (is_some c.args.name)) 1 c.args.folders.now.entries
    (c.get_mut.follows.lender g).entries f g
    c.bytes.ensures.bytes c.in-Some.ensures.value (c.get_mut.follows.holds g).0
    c.see.ensures.sheet c.see.ensures.places c.see.ensures.names c.see.ensures.owner
