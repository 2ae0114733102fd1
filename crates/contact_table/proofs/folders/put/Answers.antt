use Rattle.contact_table.specs.Marks.{putting}
use Rattle.contact_table.proofs.EntryLemmas.{edited_here, room_here}
use Rattle.contact_table.proofs.folders.put.Goals as goal

pub put-requires : goal.put-requires
put-requires c = room_here c.bytes.result.now c.args.user.now c.args.folders.now.entries c.in-Some.folder.now c.bytes.ensures.bytes c.in-Some.ensures.value
    c.requires

pub returns-in-Some : goal.returns-in-Some
returns-in-Some c =
    let f = c.in-Some.folder.now in
    let g = c.put.new.self in
    edited_here c.bytes.result.now c.args.user.now (putting c.args.contact) 1 c.args.folders.now.entries (c.get_mut.follows.lender g).entries f g
    c.bytes.ensures.bytes c.in-Some.ensures.value (c.get_mut.follows.holds g).0
    c.put.ensures.sheet c.put.ensures.places c.put.ensures.names c.put.ensures.owner
