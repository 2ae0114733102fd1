use Rattle.std.proofs.Common.{ap, ◌+◌, ◌∙◌}
use Rattle.mam_archive.specs.Archives.{new_row, texts_length}
use Rattle.archive_table.specs.Archives.{displaced}
use Rattle.archive_table.proofs.TextLemmas.{texts-kept}
use Rattle.archive_table.proofs.adding.add_to.Goals as goal

pub returns-clause-texts : goal.returns-clause-texts
returns-clause-texts c =
    let a = c.args.archive.now in
    ap (λ rows. texts_length rows + displaced (record { kept = a.kept; made = a.made })) c.add.ensures.kept
    ∙ texts-kept a.kept (new_row a c.args.peer c.args.text c.args.moment) c.know_few.ensures
