use Rattle.std.proofs.Common.{arith}
use Rattle.contact_table.specs.Marks.{taking_out}
use Rattle.contact_table.proofs.EntryLemmas.{edited_here}
use Rattle.contact_table.proofs.folders.take_out.Goals as goal

pub returns-in-Some : goal.returns-in-Some
returns-in-Some c =
    let f = c.in-Some.folder.now in
    let g = c.take_out.new.self in
    edited_here c.bytes.result.now c.args.user.now (taking_out c.args.address.now) 0 c.args.folders.now.entries (c.get_mut.follows.lender g).entries f g
    c.bytes.ensures.bytes c.in-Some.ensures.value (c.get_mut.follows.holds g).0
    c.take_out.ensures.sheet (omega (arith, c.take_out.ensures.places)) c.take_out.ensures.names c.take_out.ensures.owner
