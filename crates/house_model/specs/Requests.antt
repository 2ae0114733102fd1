-- What an iq asks for (RFC 6120, 8.2.3): its type, and the name of its one child.
use Rattle.std.specs.Prelude.{ℕ, List, Bool, false, ◌||◌, codes, is_some}
use Rattle.stanza_tree.specs.Children.{child_of}
use Rattle.stanza_tree.specs.declared.node.Element.{Element}
use Rattle.stanza_model.specs.declared.kinds.IqForm.TheVariants.{Get, Set}
use Rattle.stanza_model.specs.declared.stanza.Stanza.{Stanza}
use Rattle.stanza_model.specs.declared.stanza.Stanza.TheVariants.{Iq}
use Rattle.stanza_router.specs.Discovery.{info_space, items_space}

abbrev pub has_child : (space local : List ℕ) → Element → Bool
has_child space local e = is_some (child_of space local e.children)

abbrev pub gets : (space local : List ℕ) → Stanza → Bool
gets space local (Iq to id Get e) = has_child space local e
gets space local st = false

abbrev pub sets : (space local : List ℕ) → Stanza → Bool
sets space local (Iq to id Set e) = has_child space local e
sets space local st = false

-- XEP-0199
abbrev pub pings : Stanza → Bool
pings st = gets (codes "urn:xmpp:ping") (codes "ping") st

-- RFC 3921, 3: a session is begun, which is nothing any more
abbrev pub begins_session : Stanza → Bool
begins_session st = sets (codes "urn:ietf:params:xml:ns:xmpp-session") (codes "session") st

-- RFC 6120, 7: a resource is bound
abbrev pub binds_resource : Stanza → Bool
binds_resource st = sets (codes "urn:ietf:params:xml:ns:xmpp-bind") (codes "bind") st

-- XEP-0030
abbrev pub discovers : Stanza → Bool
discovers st = gets info_space (codes "query") st || gets items_space (codes "query") st

-- a request of either type for this namespace
abbrev pub queries : (space : List ℕ) → Stanza → Bool
queries space st = gets space (codes "query") st || sets space (codes "query") st

-- XEP-0045, 9 and 10: a room's occupants, its configuration
abbrev pub asks_a_room : Stanza → Bool
asks_a_room st = queries (codes "http://jabber.org/protocol/muc#admin") st || queries (codes "http://jabber.org/protocol/muc#owner") st
