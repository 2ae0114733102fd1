-- Service discovery (XEP-0030).
use Rattle.std.specs.Prelude.{ℕ, ◌-◌, ◌==◌, nat_le, List, [], ◌∷◌, map, length, codes, Bool, Option, Some, None, is_some, Result, Ok, Err, if◌then◌else◌}
use Rattle.std.specs.List.{find}
use Rattle.jid_core.specs.Addresses.{Address, address_text, same_bare}
use Rattle.stanza_tree.specs.Attributes.{attr_of}
use Rattle.stanza_tree.specs.Children.{child_of}
use Rattle.stanza_tree.specs.Spelling.{text_under}
use Rattle.stanza_tree.specs.declared.node.Element.{Element}
use Rattle.stanza_tree.specs.declared.node.Node.{Node}
use Rattle.stanza_tree.specs.declared.node.Node.TheOpen.{Child}
use Rattle.stanza_tree.specs.declared.node.Node.TheViews.{roll-Node}
use Rattle.stanza_model.specs.Errors.{plain_attr, element_of}
use Rattle.stanza_model.specs.Replies.{one_child, result_of, error_of}
use Rattle.stanza_model.specs.Stanzas.{to_in}
use Rattle.stanza_model.specs.declared.condition.Condition.{Condition}
use Rattle.stanza_model.specs.declared.condition.Condition.TheVariants.{ItemNotFound, ServiceUnavailable}
use Rattle.stanza_model.specs.declared.kinds.IqForm.TheVariants.{Get}
use Rattle.stanza_model.specs.declared.shared.Config.{Config}
use Rattle.stanza_model.specs.declared.stanza.Stanza.{Stanza}
use Rattle.stanza_model.specs.declared.stanza.Stanza.TheVariants.{Iq}
use Rattle.stanza_router.specs.Places.{service_domain}
use Rattle.stanza_router.specs.declared.listed.Listed.{Listed}
use Rattle.stanza_router.specs.declared.places.Place.{Place}
use Rattle.stanza_router.specs.declared.places.Place.TheVariants.{Account, Server, Service, Room}

-- XEP-0030, 3.1: who an entity is and what it supports
abbrev pub info_space : List ℕ
info_space = codes "http://jabber.org/protocol/disco#info"

-- XEP-0030, 4.1: what items it has
abbrev pub items_space : List ℕ
items_space = codes "http://jabber.org/protocol/disco#items"

-- a request is an iq of the type `get` with this child
abbrev pub query_in : List ℕ → Stanza → Option Element
query_in space (Iq to id Get e) = child_of space (codes "query") e.children
query_in space st = None

abbrev pub node_of : Element → Node
node_of e = roll-Node (Child e)

abbrev pub identity : List ℕ → List ℕ → Element
identity category type = element_of info_space (codes "identity") (plain_attr (codes "category") category ∷ plain_attr (codes "type") type ∷ []) []

abbrev pub feature : List ℕ → Element
feature var = element_of info_space (codes "feature") (plain_attr (codes "var") var ∷ []) []

abbrev pub described_as : Element → List (List ℕ) → Element
described_as identity features = element_of info_space (codes "query") [] (node_of identity ∷ map (λ var. node_of (feature var)) features)

abbrev pub described : List ℕ → List ℕ → List (List ℕ) → Element
described category type features = described_as (identity category type) features

-- XEP-0045, 4: rooms
abbrev pub rooms_space : List ℕ
rooms_space = codes "http://jabber.org/protocol/muc"

-- What a room says of itself (XEP-0045, 6.4).

-- with its title
abbrev pub room_identity : (title : List ℕ) → Element
room_identity title =
    element_of info_space (codes "identity")
    (plain_attr (codes "category") (codes "conference") ∷ plain_attr (codes "name") title ∷ plain_attr (codes "type") (codes "text") ∷ []) []

-- XEP-0045, 15.3: one feature of each pair, by how the room is configured

abbrev pub entry_feature : (members_only : Bool) → List ℕ
entry_feature members_only = if members_only then codes "muc_membersonly" else codes "muc_open"

abbrev pub voice_feature : (moderated : Bool) → List ℕ
voice_feature moderated = if moderated then codes "muc_moderated" else codes "muc_unmoderated"

abbrev pub address_feature : (anyone : Bool) → List ℕ
address_feature anyone = if anyone then codes "muc_nonanonymous" else codes "muc_semianonymous"

abbrev pub secret_feature : (unguarded : Bool) → List ℕ
secret_feature unguarded = if unguarded then codes "muc_unsecured" else codes "muc_passwordprotected"

abbrev pub stay_feature : (persistent : Bool) → List ℕ
stay_feature persistent = if persistent then codes "muc_persistent" else codes "muc_temporary"

-- XEP-0313, 6: an archive, and XEP-0359, 4: its ids
abbrev pub archive_space : List ℕ
archive_space = codes "urn:xmpp:mam:2"

abbrev pub ids_space : List ℕ
ids_space = codes "urn:xmpp:sid:0"

abbrev pub public_feature : List ℕ
public_feature = codes "muc_public"

abbrev pub room_features : Config → List (List ℕ)
room_features c =
    info_space ∷ rooms_space ∷ archive_space ∷ ids_space ∷ entry_feature c.members_only ∷ voice_feature c.moderated ∷ address_feature c.anyone
    ∷ secret_feature (length c.secret == 0) ∷ stay_feature c.persistent ∷ public_feature ∷ []

abbrev pub room_info : Listed → Element
room_info room = described_as (room_identity room.title) (room_features room.config)

-- the room of an address, among those that are listed
abbrev pub listed_under : Address → List Listed → Option Listed
listed_under to rooms = find (λ room. same_bare room.address to) rooms

abbrev pub listed_at : Option Address → List Listed → Option Listed
listed_at None rooms = None
listed_at (Some to) rooms = listed_under to rooms

-- a room that isn't listed isn't known
abbrev pub info_if : Option Listed → Result Element Condition
info_if None = Err ItemNotFound
info_if (Some room) = Ok (room_info room)

-- each place's identity and features; a room's address is that of the request
abbrev pub info_of : Place → Option Address → List Listed → Result Element Condition
info_of Server to rooms = Ok (described (codes "server") (codes "im") (info_space ∷ items_space ∷ codes "urn:xmpp:ping" ∷ []))
info_of Account to rooms = Ok (described (codes "account") (codes "registered") (info_space ∷ archive_space ∷ ids_space ∷ []))
info_of Service to rooms = Ok (described (codes "conference") (codes "text") (info_space ∷ items_space ∷ rooms_space ∷ []))
info_of (Room room) to rooms = info_if (listed_at to rooms)
info_of place to rooms = Err ItemNotFound

abbrev pub item : List ℕ → Element
item jid = element_of items_space (codes "item") (plain_attr (codes "jid") jid ∷ []) []

-- the server has the service of rooms
abbrev pub server_items : Option Address → List Element
server_items None = []
server_items (Some to) = item (service_domain to.domain) ∷ []

-- XEP-0045, 6.3: a room, with its title
abbrev pub room_item : Listed → Element
room_item room = element_of items_space (codes "item") (plain_attr (codes "jid") (address_text room.address) ∷ plain_attr (codes "name") room.title ∷ []) []

-- the most bytes of all items
abbrev pub most_items : ℕ
most_items = 196608

-- as many of them as fit
abbrev pub fitting : ℕ → List Element → List Element
fitting bytes [] = []
fitting bytes (e ∷ more) =
    if nat_le (length (text_under items_space e)) bytes then e ∷ fitting (bytes - length (text_under items_space e)) more else []

abbrev pub listing : List Element → Element
listing items = element_of items_space (codes "query") [] (map node_of items)

-- XEP-0045, 6.5: who is in a room is not told
abbrev pub no_items_if : Option Listed → Result Element Condition
no_items_if None = Err ItemNotFound
no_items_if (Some room) = Ok (listing [])

-- each place's items; the server's address, or a room's, is that of the request
abbrev pub items_of : Place → Option Address → List Listed → Result Element Condition
items_of Server to rooms = Ok (listing (server_items to))
items_of Account to rooms = Ok (listing [])
items_of Service to rooms = Ok (listing (fitting most_items (map room_item rooms)))
items_of (Room room) to rooms = no_items_if (listed_at to rooms)
items_of place to rooms = Err ItemNotFound

-- XEP-0030, 3.2: no entity here has nodes
abbrev pub unless_node : Element → Result Element Condition → Result Element Condition
unless_node query found = if is_some (attr_of (codes "node") query.attrs) then Err ItemNotFound else found

-- what is found by the children of a request for information and for items; RFC 6120, 8.4: another request is not understood
abbrev pub found_by : Place → Option Address → List Listed → Option Element → Option Element → Result Element Condition
found_by place to rooms (Some query) items = unless_node query (info_of place to rooms)
found_by place to rooms None (Some query) = unless_node query (items_of place to rooms)
found_by place to rooms None None = Err ServiceUnavailable

abbrev pub found : Place → Stanza → List Listed → Result Element Condition
found place st rooms = found_by place (to_in st) rooms (query_in info_space st) (query_in items_space st)

abbrev pub replied : Stanza → Result Element Condition → Element
replied st (Ok query) = result_of st (one_child query)
replied st (Err condition) = error_of st condition

-- the reply, without its `to`
abbrev pub discovery : Place → Stanza → List Listed → Element
discovery place st rooms = replied st (found place st rooms)
