-- The ids that archives give to messages (XEP-0359).
use Rattle.std.specs.Prelude.{ℕ, List, [], ◌∷◌, ◌++◌, Bool, true, false, not, ◌&&◌, codes, bytes_eq, Option, Some, None, is_some, Result, Ok, Err}
use Rattle.std.specs.Fmt.{decimal}
use Rattle.std.specs.List.{filter}
use Rattle.jid_core.specs.Addresses.{Address, address_of, address_text, same_address}
use Rattle.jid_core.specs.declared.fault.JidFault.{JidFault}
use Rattle.stanza_tree.specs.Attributes.{attr_of}
use Rattle.stanza_tree.specs.Children.{child_of}
use Rattle.stanza_tree.specs.Spelling.{client_space}
use Rattle.stanza_tree.specs.declared.node.Element.{Element}
use Rattle.stanza_tree.specs.declared.node.Node.{Node}
use Rattle.stanza_tree.specs.declared.node.Node.TheOpen.{Node-F, Child, Words}
use Rattle.stanza_tree.specs.declared.node.Node.TheViews.{out-Node}
use Rattle.stanza_model.specs.Errors.{element_of, plain_attr}
use Rattle.stanza_model.specs.Replies.{one_child}

-- RFC 6121, 5.2.3: what a message says
abbrev pub has_body : Element → Bool
has_body e = is_some (child_of client_space (codes "body") e.children)

-- XEP-0359, 3

abbrev pub id_space : List ℕ
id_space = codes "urn:xmpp:sid:0"

abbrev pub is_stanza_id : Element → Bool
is_stanza_id e = bytes_eq e.name.space id_space && bytes_eq e.name.local (codes "stanza-id")

abbrev pub is_address_of : Address → Result Address JidFault → Bool
is_address_of owner (Ok address) = same_address address owner
is_address_of owner (Err fault) = false

-- what stands there is read as an address, and is this one
abbrev pub names : Address → Option (List ℕ) → Bool
names owner None = false
names owner (Some text) = is_address_of owner (address_of text)

abbrev pub is_id_by : Address → Element → Bool
is_id_by owner e = is_stanza_id e && names owner (attr_of (codes "by") e.attrs)

abbrev pub may_stay_in : Address → Node-F Node Element → Bool
may_stay_in owner (Child e) = not (is_id_by owner e)
may_stay_in owner (Words w) = true

abbrev pub may_stay : Address → Node → Bool
may_stay owner n = may_stay_in owner (out-Node n)

-- XEP-0359, 5: an id in the owner's name comes from its archive alone, so one that a client wrote is taken out
abbrev pub without_ids : Address → Element → Element
without_ids owner e = record e { children = filter (may_stay owner) e.children }

-- `<stanza-id xmlns='urn:xmpp:sid:0' by='OWNER' id='N'/>`
abbrev pub stanza_id : Address → ℕ → Element
stanza_id owner n =
    element_of id_space (codes "stanza-id") (plain_attr (codes "by") (address_text owner) ∷ plain_attr (codes "id") (decimal n) ∷ []) []

-- with the id that it got in the owner's archive, as its last child
abbrev pub with_id : Address → ℕ → Element → Element
with_id owner n e = record e { children = e.children ++ one_child (stanza_id owner n) }

-- as it is told: with the archive's id, and with no other in its name
abbrev pub told_with_id : Address → ℕ → Element → Element
told_with_id owner n e = with_id owner n (without_ids owner e)

-- a message without one is handed on as it is
abbrev pub has_id : Element → Bool
has_id e = is_some (child_of id_space (codes "stanza-id") e.children)
