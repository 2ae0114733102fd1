use Rattle.std.proofs.Common.{Some, None, ◌∙◌}
use Rattle.indexmap.proofs.CallerLemmas.{insert_entry-new}
use Rattle.session_table.proofs.slots.add.Goals as goal

pub returns-clause-entries : goal.returns-clause-entries
returns-clause-entries c =
    c.in-Ok.ensures.entries
    ∙ insert_entry-new _ c.args.slots.now c.args.number (record { session = Some c.args.session; next = None }) c.requires.new
