-- Error replies (RFC 6120, 8.3).
use Rattle.std.specs.Prelude.{ℕ, List, [], ◌∷◌, ◌++◌, codes, Option, Some, None}
use Rattle.std.specs.Option.{option_map}
use Rattle.stanza_tree.specs.Spelling.{client_space}
use Rattle.stanza_tree.specs.declared.node.Attr.{Attr}
use Rattle.stanza_tree.specs.declared.node.Element.{Element}
use Rattle.stanza_tree.specs.declared.node.Node.{Node}
use Rattle.stanza_tree.specs.declared.node.Node.TheOpen.{Child}
use Rattle.stanza_tree.specs.declared.node.Node.TheViews.{roll-Node}
use Rattle.jid_core.specs.Addresses.{Address, address_text}
use Rattle.stanza_model.specs.Conditions.{condition_name, error_type}
use Rattle.stanza_model.specs.Kinds.{kind_name}
use Rattle.stanza_model.specs.Stanzas.{kind_in, to_in, id_in}
use Rattle.stanza_model.specs.declared.condition.Condition.{Condition}
use Rattle.stanza_model.specs.declared.stanza.Stanza.{Stanza}

-- RFC 6120, 8.3.2: the namespace of conditions
abbrev pub condition_space : List ℕ
condition_space = codes "urn:ietf:params:xml:ns:xmpp-stanzas"

-- an attribute in no namespace
abbrev pub plain_attr : List ℕ → List ℕ → Attr
plain_attr local value = record { name = record { space = []; local = local }; value = value }

abbrev pub attr_if : List ℕ → Option (List ℕ) → List Attr
attr_if local None = []
attr_if local (Some value) = plain_attr local value ∷ []

abbrev pub element_of : List ℕ → List ℕ → List Attr → List Node → Element
element_of space local attrs children = record { name = record { space = space; local = local }; attrs = attrs; children = children }

-- `<NAME xmlns='urn:ietf:params:xml:ns:xmpp-stanzas'/>`
abbrev pub condition_element : Condition → Element
condition_element condition = element_of condition_space (condition_name condition) [] []

-- RFC 6120, 8.3.2: `<error type='TYPE'>` with the condition
abbrev pub error_child : Condition → Element
error_child condition =
    element_of client_space (codes "error") (plain_attr (codes "type") (error_type condition) ∷ []) (roll-Node (Child (condition_element condition)) ∷ [])

-- RFC 6120, 8.1.2.1 and 8.1.3: a reply is from the one that the stanza was for, and has the stanza's id
abbrev pub reply_attrs : Stanza → List ℕ → List Attr
reply_attrs st form = attr_if (codes "from") (option_map address_text (to_in st)) ++ attr_if (codes "id") (id_in st) ++ plain_attr (codes "type") form ∷ []

-- to the sender
abbrev pub error_attrs : Stanza → Address → List Attr
error_attrs st sender = plain_attr (codes "to") (address_text sender) ∷ reply_attrs st (codes "error")

-- RFC 6120, 8.3.1: a stanza of the same kind and of the type `error`, with the error alone
abbrev pub error_element : Stanza → Address → Condition → Element
error_element st sender condition =
    element_of client_space (kind_name (kind_in st)) (error_attrs st sender) (roll-Node (Child (error_child condition)) ∷ [])
