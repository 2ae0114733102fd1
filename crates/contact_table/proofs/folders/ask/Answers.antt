use Rattle.std.proofs.Common.{arith}
use Rattle.contact_table.specs.Marks.{asking}
use Rattle.contact_table.proofs.EntryLemmas.{edited_here}
use Rattle.contact_table.proofs.folders.ask.Goals as goal

pub returns-in-Some : goal.returns-in-Some
returns-in-Some c =
    let f = c.in-Some.folder.now in
    let g = c.ask.new.self in
    edited_here c.bytes.result.now c.args.user.now (asking c.args.domain.now c.args.other.now c.args.yes) 0 c.args.folders.now.entries
    (c.get_mut.follows.lender g).entries f g
    c.bytes.ensures.bytes c.in-Some.ensures.value (c.get_mut.follows.holds g).0
    c.ask.ensures.sheet (omega (arith, c.ask.ensures.places)) c.ask.ensures.names c.ask.ensures.owner
