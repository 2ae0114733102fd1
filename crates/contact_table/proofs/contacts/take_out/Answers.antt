use Rattle.std.proofs.Common.{rules}
use Rattle.std.proofs.lemmas.Fn.{filter_same}
use Rattle.contact_table.proofs.contacts.take_out.Goals as goal

pub returns-clause-contacts : goal.returns-clause-contacts
returns-clause-contacts c = filter_same _ _ _ (λ x b f' k. search rules) _ _ c.retain.ensures.filtered
