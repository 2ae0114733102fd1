use Rattle.std.proofs.Common.{is_some}
use Rattle.contact_table.specs.Marks.{asked_by}
use Rattle.contact_table.proofs.EntryLemmas.{edited_here, room_here}
use Rattle.contact_table.proofs.folders.be_asked.Goals as goal

pub be_asked-requires-clause-room : goal.be_asked-requires-clause-room
be_asked-requires-clause-room c = room_here c.bytes.result.now c.args.user.now c.args.folders.now.entries c.in-Some.folder.now c.bytes.ensures.bytes
    c.in-Some.ensures.value c.requires.room

pub returns-in-Some : goal.returns-in-Some
returns-in-Some c =
    let f = c.in-Some.folder.now in
    let g = c.be_asked.new.self in
    edited_here c.bytes.result.now c.args.user.now (asked_by c.args.other.now (is_some c.args.name)) 1 c.args.folders.now.entries
    (c.get_mut.follows.lender g).entries f g
    c.bytes.ensures.bytes c.in-Some.ensures.value (c.get_mut.follows.holds g).0
    c.be_asked.ensures.sheet c.be_asked.ensures.places c.be_asked.ensures.names c.be_asked.ensures.owner
