use Rattle.std.proofs.Common.{arith}
use Rattle.contact_table.proofs.EntryLemmas.{edited_by}
use Rattle.contact_table.proofs.folders.reserve.Goals as goal

pub returns-in-Some-get_mut-clause-edits : goal.returns-in-Some-get_mut-clause-edits
returns-in-Some-get_mut-clause-edits c =
    let f = c.in-Some-get_mut.folder.now in
    let g = c.reserve.new.self in
    let kept = c.reserve.ensures in
    edited_by c.bytes.result.now c.args.user.now (λ s. s) 0 0 c.args.folders.now.entries (c.get_mut.follows.lender g).entries f g
    c.bytes.ensures.bytes c.in-Some-get_mut.ensures.value (c.get_mut.follows.holds g).0
    kept.sheet (omega (arith, kept.keeps_places)) (omega (arith, kept.keeps_names)) kept.owner kept.named
