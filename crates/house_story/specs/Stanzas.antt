-- The stanzas of the story, as they are sent, and what is queued of them.
use Rattle.std.specs.Prelude.{ℕ, List, [], ◌∷◌, Some, None, codes}
use Rattle.jid_core.specs.Addresses.{Address, address_text}
use Rattle.stanza_tree.specs.Spelling.{client_space}
use Rattle.stanza_tree.specs.declared.frame.Entry.{Entry}
use Rattle.stanza_tree.specs.declared.frame.Origin.TheVariants.{Direct}
use Rattle.stanza_tree.specs.declared.node.Element.{Element}
use Rattle.stanza_model.specs.Errors.{element_of, plain_attr}
use Rattle.stanza_model.specs.declared.kinds.MessageForm.TheVariants.{Normal}
use Rattle.stanza_model.specs.declared.kinds.PresenceForm.TheVariants.{Available}
use Rattle.stanza_model.specs.declared.stanza.Stanza.{Stanza}
use Rattle.stanza_model.specs.declared.stanza.Stanza.TheVariants.{Message, Presence}

-- The account `a` at the domain `b` has two clients, a desk and a phone.

abbrev pub account : Address
account = record { local = Some (codes "a"); domain = codes "b"; resource = None }

abbrev pub desk : Address
desk = record account { resource = Some (codes "d") }

abbrev pub phone : Address
phone = record account { resource = Some (codes "p") }

-- `<presence/>`
abbrev pub presence_element : Element
presence_element = element_of client_space (codes "presence") [] []

-- `<message to='TO'/>`
abbrev pub message_element : Address → Element
message_element to = element_of client_space (codes "message") (plain_attr (codes "to") (address_text to) ∷ []) []

-- What is sent: presence, a message to the desk, one to the phone, and one to the account.

abbrev pub here : Stanza
here = Presence None Available presence_element

abbrev pub message_to : Address → Stanza
message_to to = Message (Some to) Normal (message_element to)

abbrev pub to_there : Stanza
to_there = message_to desk

abbrev pub to_phone : Stanza
to_phone = message_to phone

abbrev pub to_all : Stanza
to_all = message_to account

-- What is queued of it for the desk.

abbrev pub for_desk : List ℕ → Entry
for_desk rest = record { to = codes "a@b/d"; rest = rest; origin = Direct }

abbrev pub shown_here : Entry
shown_here = for_desk (codes "<presence from='a@b/d'/>")

abbrev pub come_there : Entry
come_there = for_desk (codes "<message from='a@b/p'/>")

abbrev pub come_to_all : Entry
come_to_all = record come_there { to = codes "a@b" }
