use Rattle.std.proofs.Common.{ap, sym, ◌∙◌}
use Rattle.contact_table.specs.Folders.{asked_in, has_user, sheet_in}
use Rattle.contact_table.proofs.EntryLemmas.{found_by}
use Rattle.contact_table.proofs.folders.has_asked.Goals as goal

pub returns-in-Some-get : goal.returns-in-Some-get
returns-in-Some-get c =
    let es = c.args.folders.now.entries in
    let user = c.args.user.now in
    let found = found_by c.bytes.result.now c.in-Some.other.now es c.in-Some-get.folder.now c.bytes.ensures.bytes c.in-Some-get.ensures.value in
    c.has.ensures ∙ ap (λ o. has_user (sheet_in o).who_asked user) (sym found) ∙ ap (asked_in es user) c.in-Some.ensures
