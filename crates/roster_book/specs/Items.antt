-- What a roster set says (RFC 6121, 2.1.2 and 2.1.5): the item of its `query`.
use Rattle.std.specs.Prelude.{ℕ, ◌==◌, List, [], ◌∷◌, map, length, Bool, false, not, ◌&&◌, codes, bytes_eq}
use Rattle.std.specs.Prelude.{Option, Some, None, is_some, unwrap_or, if◌then◌else◌}
use Rattle.std.specs.Option.{option_map, option_and_then}
use Rattle.jid_core.specs.Addresses.{Address, address_of, same_bare}
use Rattle.stanza_tree.specs.Attributes.{attr_of}
use Rattle.stanza_tree.specs.Children.{child_of, words_of}
use Rattle.stanza_tree.specs.declared.node.Element.{Element}
use Rattle.stanza_tree.specs.declared.node.Node.{Node}
use Rattle.stanza_tree.specs.declared.node.Node.TheViews.{out-Node}
use Rattle.stanza_tree.specs.declared.node.Node.TheOpen.{Node-F, Child, Words}
use Rattle.stanza_model.specs.Rosters.{roster_space}
use Rattle.stanza_model.specs.Stanzas.{address_if, has_value}
use Rattle.stanza_model.specs.declared.kinds.IqForm.TheVariants as iq
use Rattle.stanza_model.specs.declared.shared.Contact.{Contact}
use Rattle.stanza_model.specs.declared.shared.Subscription.TheVariants.{Neither}
use Rattle.stanza_model.specs.declared.stanza.Stanza.{Stanza}
use Rattle.stanza_model.specs.declared.stanza.Stanza.TheVariants.{Iq}
use Rattle.roster_book.specs.declared.item.Wanted.{Wanted}

-- a child that is such an element stands before the later ones
abbrev pub part_and : List ℕ → Node-F Node Element → List Element → List Element
part_and local (Child e) later = if bytes_eq e.name.space roster_space && bytes_eq e.name.local local then e ∷ later else later
part_and local (Words w) later = later

-- the child elements of that name in the namespace of rosters, in their order
abbrev pub parts_of : List ℕ → List Node → List Element
parts_of local [] = []
parts_of local (n ∷ ns) = part_and local (out-Node n) (parts_of local ns)

-- RFC 6121, 2.1.5: a roster set is an iq of the type `set` with a `query`
abbrev pub query_in : Stanza → Option Element
query_in (Iq to id iq.Set e) = child_of roster_space (codes "query") e.children
query_in st = None

-- RFC 6121, 2.1.5: its item, where there is one and no other
abbrev pub only_item : Element → Option Element
only_item query = if length (parts_of (codes "item") query.children) == 1 then child_of roster_space (codes "item") query.children else None

-- RFC 6121, 2.1.2.3: the address of an item, where it can be read
abbrev pub address_in : Element → Option Address
address_in item = option_and_then (λ text. address_if (address_of text)) (attr_of (codes "jid") item.attrs)

-- the contact is another user or a server: no session, and not the owner
abbrev pub is_other : Address → Address → Bool
is_other owner address = not (is_some address.resource) && not (same_bare address owner)

abbrev pub other_than : Address → Address → Option Address
other_than owner address = if is_other owner address then Some address else None

-- RFC 6121, 2.1.2.4
abbrev pub name_in : Element → List ℕ
name_in item = unwrap_or (attr_of (codes "name") item.attrs) []

-- RFC 6121, 2.1.2.6: the words of each `group`
abbrev pub groups_in : Element → List (List ℕ)
groups_in item = map (λ g. words_of g.children) (parts_of (codes "group") item.children)

-- RFC 6121, 2.1.2.2, 2.1.2.5 and 2.3.1: a client says no `ask` and no `subscription`; a new contact has none
abbrev pub contact_in : Element → Address → Contact
contact_in item address = record { address = address; name = name_in item; groups = groups_in item; subscription = Neither; asked = false }

-- RFC 6121, 2.5.1: but for this one, by which the contact is removed
abbrev pub is_removal : Element → Bool
is_removal item = has_value (codes "remove") (attr_of (codes "subscription") item.attrs)

abbrev pub wanted_by : Address → Element → Option Wanted
wanted_by owner item =
    option_map (λ address. record { contact = contact_in item address; remove = is_removal item })
    (option_and_then (other_than owner) (address_in item))

-- what a roster set wants, where it has exactly one item, whose address can be read and is that of another
abbrev pub wanted_in : Address → Stanza → Option Wanted
wanted_in owner request = option_and_then (wanted_by owner) (option_and_then only_item (query_in request))
