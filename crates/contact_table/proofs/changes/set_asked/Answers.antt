use Rattle.std.proofs.Common.{Bool, subst, ◌∙◌}
use Rattle.contact_table.specs.Folders.{Edits, folder_at}
use Rattle.contact_table.specs.Marks.{asked_by}
use Rattle.contact_table.proofs.KeepLemmas.{keeps_asked, keeps_same, room_there}
use Rattle.contact_table.proofs.changes.set_asked.Goals as goal

pub returns-clause-kept : goal.returns-clause-kept
returns-clause-kept c k before =
    let a = c.args.a.now in
    let b = c.args.b.now in
    let domain = c.args.domain.now in
    let old = c.args.folders.now.entries in
    let one = c.take_name-name_a.new.folders.entries in
    let two = c.ask.new.folders.entries in
    let taken = c.take_name-name_a.ensures in
    let there = taken.edits.there a ∙ room_there (folder_at a old) c.requires.room_a in
    keeps_asked domain a b k c.args.yes one two c.be_asked.new.folders.entries (keeps_same domain a k 0 1 old one before taken.edits)
    there c.ask.ensures
    (subst (λ (on : Bool). Edits b (asked_by a on) 1 0 two c.be_asked.new.folders.entries) taken.wanted c.be_asked.ensures)
