-- How much a roster holds, and how much of that a contact counts.
use Rattle.std.specs.Prelude.{ℕ, length, true}
use Rattle.stanza_tree.specs.Spelling.{text_under}
use Rattle.stanza_model.specs.Rosters.{item, roster_space}
use Rattle.stanza_model.specs.declared.shared.Contact.{Contact}
use Rattle.stanza_model.specs.declared.shared.Subscription.TheVariants.{Neither}

abbrev pub most_contacts : ℕ
most_contacts = 1000

-- the most bytes of all items
abbrev pub most_text : ℕ
most_text = 196608

-- A contact's item within its query, as it is without a subscription and with `ask`, so that no subscription makes a roster too large
abbrev pub counted : Contact → ℕ
counted x = length (text_under roster_space (item (record x { subscription = Neither; asked = true })))
