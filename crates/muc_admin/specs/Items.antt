-- What the items of a request ask for (XEP-0045, 8 to 10).
use Rattle.std.specs.Prelude.{ℕ, ◌==◌, List, [], ◌∷◌, length, Bool, true, false, ◌&&◌, codes, bytes_eq, Option, Some, None, Result, Ok, Err, if◌then◌else◌}
use Rattle.std.specs.Option.{option_and_then}
use Rattle.jid_core.specs.Addresses.{Address, address_of, bare}
use Rattle.jid_core.specs.Preparation.{resource_of}
use Rattle.jid_core.specs.declared.fault.JidFault.{JidFault}
use Rattle.stanza_tree.specs.Attributes.{attr_of}
use Rattle.stanza_tree.specs.Children.{child_of}
use Rattle.stanza_tree.specs.declared.node.Element.{Element}
use Rattle.stanza_tree.specs.declared.node.Node.{Node}
use Rattle.stanza_tree.specs.declared.node.Node.TheViews.{out-Node}
use Rattle.stanza_tree.specs.declared.node.Node.TheOpen.{Node-F, Child, Words}
use Rattle.stanza_model.specs.Rooms.{affiliation_named, role_named}
use Rattle.stanza_model.specs.Stanzas.{address_if}
use Rattle.stanza_model.specs.declared.room.Affiliation.{Affiliation}
use Rattle.stanza_model.specs.declared.room.Role.{Role}
use Rattle.muc_admin.specs.declared.item.Wanted.{Wanted}
use Rattle.muc_admin.specs.declared.item.Wanted.TheVariants as wanted

-- XEP-0045, 15.1: the requests of moderators, admins and owners about roles and affiliations
abbrev pub admin_space : List ℕ
admin_space = codes "http://jabber.org/protocol/muc#admin"

abbrev pub is_item : Element → Bool
is_item e = bytes_eq e.name.space admin_space && bytes_eq e.name.local (codes "item")

-- a child that is an item stands before the later ones
abbrev pub item_and : Node-F Node Element → List Element → List Element
item_and (Child e) later = if is_item e then e ∷ later else later
item_and (Words w) later = later

-- the items of a query, in their order; its other children don't count
abbrev pub items_of : List Node → List Element
items_of [] = []
items_of (n ∷ ns) = item_and (out-Node n) (items_of ns)

-- its item, where there is one and no other
abbrev pub only_item : Element → Option Element
only_item query = if length (items_of query.children) == 1 then child_of admin_space (codes "item") query.children else None

-- the address in an attribute, where it can be read
abbrev pub address_at : List ℕ → Element → Option Address
address_at local e = option_and_then (λ text. address_if (address_of text)) (attr_of local e.attrs)

-- a nick is compared as it is prepared (RFC 7622, 3.4); one that can't be is nobody's, as the empty one
abbrev pub nick_as : Result (List ℕ) JidFault → List ℕ
nick_as (Ok nick) = nick
nick_as (Err fault) = []

-- XEP-0045, 8.2: a role is set by nick
abbrev pub role_wanted : Option (List ℕ) → Option Role → Wanted
role_wanted (Some nick) (Some role) = wanted.Role (nick_as (resource_of nick)) role
role_wanted (Some nick) None = wanted.Garbled
role_wanted None role = wanted.Garbled

-- XEP-0045, 9.1: an affiliation is set by address, whose resource doesn't matter
abbrev pub affiliation_wanted : Option Address → Option Affiliation → Wanted
affiliation_wanted (Some address) (Some a) = wanted.Affiliation (bare address) a
affiliation_wanted (Some address) None = wanted.Garbled
affiliation_wanted None a = wanted.Garbled

-- by its `affiliation` and its `role`: one of them is there, and not the other
abbrev pub wanted_as : Element → Option (List ℕ) → Option (List ℕ) → Wanted
wanted_as e None (Some role) = role_wanted (attr_of (codes "nick") e.attrs) (role_named role)
wanted_as e (Some affiliation) None = affiliation_wanted (address_at (codes "jid") e) (affiliation_named affiliation)
wanted_as e (Some affiliation) (Some role) = wanted.Garbled
wanted_as e None None = wanted.Garbled

-- what an item of a set wants
abbrev pub wanted_by : Element → Wanted
wanted_by e = wanted_as e (attr_of (codes "affiliation") e.attrs) (attr_of (codes "role") e.attrs)

abbrev pub is_garbled : Wanted → Bool
is_garbled (wanted.Role nick role) = false
is_garbled (wanted.Affiliation address a) = false
is_garbled wanted.Garbled = true
