-- What the clients of a drill send.
use Rattle.std.specs.Prelude.{ℕ, List, [], ◌∷◌, ◌++◌, codes, Some, None}
use Rattle.std.specs.Fmt.{decimal}
use Rattle.jid_core.specs.Addresses.{Address, address_text}
use Rattle.stanza_tree.specs.Spelling.{client_space}
use Rattle.stanza_tree.specs.declared.node.Attr.{Attr}
use Rattle.stanza_tree.specs.declared.node.Element.{Element}
use Rattle.stanza_tree.specs.declared.node.Node.{Node}
use Rattle.stanza_tree.specs.declared.node.Node.TheOpen.{Child, Words}
use Rattle.stanza_tree.specs.declared.node.Node.TheViews.{roll-Node}
use Rattle.stanza_model.specs.Errors.{element_of, plain_attr}
use Rattle.stanza_model.specs.declared.kinds.IqForm.TheVariants.{Set}
use Rattle.stanza_model.specs.declared.kinds.MessageForm.TheVariants.{Chat, Groupchat}
use Rattle.stanza_model.specs.declared.kinds.PresenceForm.TheVariants.{Available}
use Rattle.stanza_model.specs.declared.stanza.Stanza.{Stanza}
use Rattle.stanza_model.specs.declared.stanza.Stanza.TheVariants.{Iq, Message, Presence}

abbrev pub domain : Address
domain = record { local = None; domain = codes "example.org"; resource = None }

abbrev pub room : Address
room = record { local = Some (codes "drill"); domain = codes "rooms.example.org"; resource = None }

-- `u0` to `u7`, which are also their nicks
abbrev pub user : (i : ℕ) → List ℕ
user i = codes "u" ++ decimal i

abbrev pub seat : (i : ℕ) → Address
seat i = record room { resource = Some (user i) }

abbrev pub client : (i : ℕ) → Address
client i = record domain { local = Some (user i); resource = Some (codes "r") }

abbrev pub child : Element → Node
child e = roll-Node (Child e)

abbrev pub to : Address → List Attr → List Attr
to address more = plain_attr (codes "to") (address_text address) ∷ more

-- `<presence to='drill@rooms.example.org/uI'/>`
abbrev pub enter : (i : ℕ) → Stanza
enter i = Presence (Some (seat i)) Available (element_of client_space (codes "presence") (to (seat i) []) [])

abbrev pub owner_space : List ℕ
owner_space = codes "http://jabber.org/protocol/muc#owner"

-- `<x xmlns='jabber:x:data' type='submit'/>`
abbrev pub submit : Element
submit = element_of (codes "jabber:x:data") (codes "x") (plain_attr (codes "type") (codes "submit") ∷ []) []

-- `<iq to='drill@rooms.example.org' id='c' type='set'><query xmlns='http://jabber.org/protocol/muc#owner'>..</query></iq>`
abbrev pub unlock : Stanza
unlock =
    Iq (Some room) (codes "c") Set
    (element_of client_space (codes "iq")
    (to room (plain_attr (codes "id") (codes "c") ∷ plain_attr (codes "type") (codes "set") ∷ []))
    (child (element_of owner_space (codes "query") [] (child submit ∷ [])) ∷ []))

-- `<message to='TO' type='TYPE'><body>K</body></message>`
abbrev pub message : Address → (type : List ℕ) → (k : ℕ) → Element
message address type k =
    element_of client_space (codes "message") (to address (plain_attr (codes "type") type ∷ []))
    (child (element_of client_space (codes "body") [] (roll-Node (Words (decimal k)) ∷ [])) ∷ [])

abbrev pub to_room : (k : ℕ) → Stanza
to_room k = Message (Some room) Groupchat (message room (codes "groupchat") k)

abbrev pub to_client : (j k : ℕ) → Stanza
to_client j k = Message (Some (client j)) Chat (message (client j) (codes "chat") k)
