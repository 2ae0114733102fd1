use Rattle.contact_table.proofs.KeepLemmas.{keeps_no_contact}
use Rattle.contact_table.proofs.changes.drop_contact.Goals as goal

pub returns-clause-kept : goal.returns-clause-kept
returns-clause-kept c domain k before =
    keeps_no_contact domain k c.args.user.now c.args.address.now 0 c.args.folders.now.entries c.take_out.new.folders.entries before c.take_out.ensures
