use Rattle.std.proofs.Common.{List, position, sym, ap, ◌∙◌}
use Rattle.stanza_model.specs.declared.shared.Contact.{Contact}
use Rattle.contact_table.proofs.ContactLemmas.{is_at, listed_last, listed_set}
use Rattle.contact_table.proofs.contacts.put.Goals as goal

pub returns-in-Some-clause-contacts : goal.returns-in-Some-clause-contacts
returns-in-Some-clause-contacts c =
    let contact = c.args.contact in
    listed_set contact c.in-Some.place c.args.contacts.now.items
    (ap (λ (cs : List Contact). position (is_at contact.address) cs) (sym c.as_slice.ensures.value) ∙ (sym c.place_of.ensures ∙ c.in-Some.is))

pub returns-in-None-clause-contacts : goal.returns-in-None-clause-contacts
returns-in-None-clause-contacts c =
    let contact = c.args.contact in
    c.push_reserved.ensures.items
    ∙ listed_last contact c.args.contacts.now.items
    (ap (λ (cs : List Contact). position (is_at contact.address) cs) (sym c.as_slice.ensures.value) ∙ (sym c.place_of.ensures ∙ c.in-None.is))
