use Rattle.std.proofs.Common.{Bool, ap, ◌∙◌}
use Rattle.stanza_model.specs.declared.shared.Contact.{Contact}
use Rattle.stanza_model.specs.declared.shared.Subscription.{Subscription}
use Rattle.contact_table.specs.Books.{Record, local_user}
use Rattle.contact_table.specs.Folders.{folder_at, sheet_in, subscription_in}
use Rattle.contact_table.proofs.KeepLemmas.{keeps_contact}
use Rattle.contact_table.proofs.changes.set_contact.Goals as goal

pub returns-clause-kept : goal.returns-clause-kept
returns-clause-kept c k before =
    let user = c.args.user.now in
    let domain = c.args.domain.now in
    let old = c.args.folders.now.entries in
    let x : Record = record { user = user; address = c.args.address; name = c.args.name; groups = c.args.groups } in
    let contact : Contact = record {
      address = x.address;
      name = x.name;
      groups = x.groups;
      subscription = c.subscription_of-subscription.result;
      asked = c.has_asked-asked.result;
    } in
    keeps_contact domain k x contact 1 old c.put.new.folders.entries before
    (ap (λ (state : Subscription). record contact { subscription = state }) c.subscription_of-subscription.ensures
    ∙ ap (λ (asked : Bool). record contact { subscription = subscription_in (sheet_in (folder_at user old)) (local_user domain x.address); asked = asked })
    c.has_asked-asked.ensures)
    c.put.ensures
