use Rattle.std.proofs.Common.{is_some}
use Rattle.contact_table.specs.Marks.{seen_by}
use Rattle.contact_table.proofs.EntryLemmas.{edited_here, room_here}
use Rattle.contact_table.proofs.folders.be_seen.Goals as goal

pub be_seen-requires-clause-room : goal.be_seen-requires-clause-room
be_seen-requires-clause-room c = room_here c.bytes.result.now c.args.user.now c.args.folders.now.entries c.in-Some.folder.now c.bytes.ensures.bytes
    c.in-Some.ensures.value c.requires.room

pub returns-in-Some : goal.returns-in-Some
returns-in-Some c =
    let f = c.in-Some.folder.now in
    let g = c.be_seen.new.self in
    edited_here c.bytes.result.now c.args.user.now (seen_by c.args.domain.now c.args.other.now (is_some c.args.name)) 1 c.args.folders.now.entries
    (c.get_mut.follows.lender g).entries f g
    c.bytes.ensures.bytes c.in-Some.ensures.value (c.get_mut.follows.holds g).0
    c.be_seen.ensures.sheet c.be_seen.ensures.places c.be_seen.ensures.names c.be_seen.ensures.owner
