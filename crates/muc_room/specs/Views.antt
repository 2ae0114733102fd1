-- What a session sees of an item that its room broadcasts (XEP-0045, 7.2.2, 7.4, 7.6, 7.14 and 10.9).
use Rattle.std.specs.Prelude.{ℕ, ◌==◌, List, [], ◌∷◌, ◌++◌, map, Bool, true, false, not, ◌&&◌, ◌||◌, codes, bytes_eq, Option, Some, None, unwrap_or}
use Rattle.std.specs.Prelude.{if◌then◌else◌}
use Rattle.std.specs.Fmt.{decimal}
use Rattle.std.specs.List.{filter, find, list_any}
use Rattle.std.specs.Option.{option_map}
use Rattle.jid_core.specs.Addresses.{Address, address_text}
use Rattle.stanza_tree.specs.Spelling.{client_space, text, text_with, texts_under}
use Rattle.stanza_tree.specs.declared.node.Attr.{Attr}
use Rattle.stanza_tree.specs.declared.node.Element.{Element}
use Rattle.stanza_tree.specs.declared.node.Node.{Node}
use Rattle.stanza_tree.specs.declared.node.Node.TheOpen.{Node-F, Child, Words}
use Rattle.stanza_tree.specs.declared.node.Node.TheViews.{out-Node, roll-Node}
use Rattle.stanza_model.specs.Errors.{attr_if, element_of, plain_attr}
use Rattle.stanza_model.specs.Rooms.{affiliation_name, role_name}
use Rattle.stanza_model.specs.declared.room.Affiliation.{Affiliation}
use Rattle.stanza_model.specs.declared.room.Affiliation.TheVariants.{Neither}
use Rattle.stanza_model.specs.declared.room.Nicked.{Nicked}
use Rattle.stanza_model.specs.declared.room.Role.{Role}
use Rattle.stanza_model.specs.declared.room.Role.TheVariants.{Nobody}
use Rattle.stanza_model.specs.declared.room.RoomItem.{RoomItem}
use Rattle.stanza_model.specs.declared.room.RoomItem.TheVariants.{Presence, Message, Destroyed}
use Rattle.stanza_model.specs.declared.shared.Shown.{Shown}
use Rattle.muc_room.specs.declared.sharing.SharedViews.{SharedViews}

-- XEP-0045, 15.5: what a client says of a room, and what a room says of its users
abbrev pub muc_space : List ℕ
muc_space = codes "http://jabber.org/protocol/muc"

abbrev pub user_space : List ℕ
user_space = codes "http://jabber.org/protocol/muc#user"

-- XEP-0045, 4.2: an occupant's address is the room's with its nick
abbrev pub at : Address → Option (List ℕ) → Address
at room nick = record room { resource = nick }

-- What is shown of a presence: all its children but those that speak of rooms.

abbrev pub speaks_of_rooms : Element → Bool
speaks_of_rooms e = bytes_eq e.name.local (codes "x") && (bytes_eq e.name.space muc_space || bytes_eq e.name.space user_space)

abbrev pub is_shown_in : Node-F Node Element → Bool
is_shown_in (Child e) = not (speaks_of_rooms e)
is_shown_in (Words w) = true

abbrev pub is_shown : Node → Bool
is_shown n = is_shown_in (out-Node n)

-- as they are spelt in a stanza, one after another
abbrev pub shown_children : List Node → List ℕ
shown_children nodes = texts_under client_space (filter is_shown nodes)

-- The room's own words in a presence.

-- `<item affiliation='A' jid='J' nick='N' role='R'/>`
abbrev pub item : Affiliation → (jid : Option Address) → (nick : Option (List ℕ)) → Role → Element
item affiliation jid nick role =
    element_of user_space (codes "item")
    (plain_attr (codes "affiliation") (affiliation_name affiliation) ∷ attr_if (codes "jid") (option_map address_text jid)
    ++ attr_if (codes "nick") nick ++ plain_attr (codes "role") (role_name role) ∷ []) []

-- XEP-0045, 15.6
abbrev pub status : ℕ → Element
status code = element_of user_space (codes "status") (plain_attr (codes "code") (decimal code) ∷ []) []

abbrev pub child_node : Element → Node
child_node e = roll-Node (Child e)

abbrev pub status_node : ℕ → Node
status_node code = child_node (status code)

abbrev pub x_of : List Node → Element
x_of nodes = element_of user_space (codes "x") [] nodes

abbrev pub type_if : (gone : Bool) → List Attr
type_if false = []
type_if true = plain_attr (codes "type") (codes "unavailable") ∷ []

-- `<presence from='ROOM/NICK'>`
abbrev pub presence_from : Address → (gone : Bool) → Element
presence_from from gone = element_of client_space (codes "presence") (plain_attr (codes "from") (address_text from) ∷ type_if gone) []

-- with what is shown of the occupant's own presence, and then the room's words
abbrev pub presence_text : Address → (gone : Bool) → (children : List ℕ) → Element → List ℕ
presence_text from gone children x = text_with (presence_from from gone) (children ++ text x)

-- What a session sees.

abbrev pub is_among : ℕ → List ℕ → Bool
is_among session sessions = list_any (λ s. s == session) sessions

-- XEP-0045, 7.2.2: an occupant sees its own address, and that of another where it may
abbrev pub jid_for : (own sees : Bool) → (to address : Address) → Option Address
jid_for true sees to address = Some to
jid_for false true to address = Some address
jid_for false false to address = None

abbrev pub codes_for : (own : Bool) → (statuses own_statuses : List ℕ) → List ℕ
codes_for true statuses own_statuses = own_statuses ++ statuses
codes_for false statuses own_statuses = statuses

-- XEP-0045, 10.9: `<destroy>` with the reason alone
abbrev pub reason_nodes : Option Element → List Node
reason_nodes None = []
reason_nodes (Some reason) = child_node reason ∷ []

abbrev pub destroy : Option Element → Element
destroy reason = element_of user_space (codes "destroy") [] (reason_nodes reason)

abbrev pub destroyed : Option Element → Element
destroyed reason = x_of (child_node (item Neither None None Nobody) ∷ child_node (destroy reason) ∷ status_node 110 ∷ [])

-- the nick of a session; each that is in the room has one
abbrev pub nick_of : ℕ → List Nicked → Option (List ℕ)
nick_of session nicks = option_map (λ n. n.nick) (find (λ n. n.session == session) nicks)

-- a presence, of which this address is told
abbrev pub presence_as : RoomItem → (own : Bool) → (jid : Option Address) → (room : Address) → List ℕ
presence_as (Presence sessions nick address affiliation role gone renamed children statuses own_statuses) own jid room =
    presence_text (at room (Some nick)) gone children
    (x_of (child_node (item affiliation jid renamed role) ∷ map status_node (codes_for own statuses own_statuses)))
presence_as it own jid room = []

-- the text without its `to`: of a session of this number and this address, which saw addresses or didn't
abbrev pub seen : RoomItem → (sees : Bool) → (room : Address) → (session : ℕ) → (to : Address) → List ℕ
seen (Presence sessions nick address affiliation role gone renamed children statuses own_statuses) sees room session to =
    presence_text (at room (Some nick)) gone children
    (x_of (child_node (item affiliation (jid_for (is_among session sessions) sees to address) renamed role)
    ∷ map status_node (codes_for (is_among session sessions) statuses own_statuses)))
seen (Message text body from moment) sees room session to = text
seen (Destroyed reason nicks) sees room session to = presence_text (at room (nick_of session nicks)) true [] (destroyed reason)

abbrev pub view : RoomItem → (sees : Bool) → (room : Address) → (session : ℕ) → (to : Address) → Shown
view item sees room session to = record { to = address_text to; rest = seen item sees room session to }

-- The views that several sessions share.

abbrev pub told_if : (sees : Bool) → Address → Option Address
told_if true address = Some address
told_if false address = None

-- of a session that the item isn't about; who was in a room that is destroyed is shown itself alone
abbrev pub seen_by_others : RoomItem → (sees : Bool) → (room : Address) → List ℕ
seen_by_others (Presence sessions nick address affiliation role gone renamed children statuses own_statuses) sees room =
    presence_as (Presence sessions nick address affiliation role gone renamed children statuses own_statuses) false (told_if sees address) room
seen_by_others (Message text body from moment) sees room = text
seen_by_others (Destroyed reason nicks) sees room = []

abbrev pub shared_views : RoomItem → (room : Address) → SharedViews
shared_views it room = record { full = seen_by_others it true room; plain = seen_by_others it false room }
