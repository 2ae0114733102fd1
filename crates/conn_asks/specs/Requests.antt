-- What the header and the top elements of a client's stream ask for (RFC 6120).
use Rattle.std.specs.Prelude.{◌≡◌, ℕ, ◌==◌, nat_le, nat_lt, List, [], ◌∷◌, Bool, true, false, not, ◌&&◌}
use Rattle.std.specs.Prelude.{codes, length, bytes_eq, Option, Some, None, if◌then◌else◌}
use Rattle.std.specs.Char.{is_ascii_digit}
use Rattle.std.specs.List.{list_all}
use Rattle.stanza_tree.specs.Attributes.{attr_of}
use Rattle.stanza_tree.specs.Children.{child_of, words_of}
use Rattle.stanza_tree.specs.Spelling.{client_space}
use Rattle.stanza_tree.specs.declared.node.Element.{Element}
use Rattle.jid_core.specs.Cuts.{before, after}
use Rattle.jid_core.specs.Addresses.{Address, address_of, same_address, same_bare}
use Rattle.stanza_model.specs.Stanzas.{address_if, has_value, element_count}
use Rattle.conn_asks.specs.declared.binding.Binding.{Binding}
use Rattle.conn_asks.specs.declared.ended.HeaderFault.{HeaderFault}
use Rattle.conn_asks.specs.declared.ended.HeaderFault.TheVariants.{InvalidNamespace, UnsupportedVersion, HostUnknown}

-- The header.

-- RFC 6120, 4.8.1 and 4.8.2: the root is `stream` of streams, and what is in it is of `jabber:client` by default
abbrev pub has_stream_names : Element → List ℕ → Bool
has_stream_names root default_space =
    bytes_eq root.name.space (codes "http://etherx.jabber.org/streams") && bytes_eq root.name.local (codes "stream") && bytes_eq default_space client_space

abbrev pub are_digits : List ℕ → Bool
are_digits text = nat_lt 0 (length text) && list_all is_ascii_digit text

abbrev pub is_zero_digit : ℕ → Bool
is_zero_digit b = b == 48

-- a major version: a number in decimal other than 0
abbrev pub is_major : List ℕ → Bool
is_major text = are_digits text && not (list_all is_zero_digit text)

abbrev pub is_minor : Option (List ℕ) → Bool
is_minor None = false
is_minor (Some text) = are_digits text

-- RFC 6120, 4.7.5: a version is two numbers in decimal with a dot between; the first is 1 or more
abbrev pub is_version : Option (List ℕ) → Bool
is_version None = false
is_version (Some text) = is_major (before 46 text) && is_minor (after 46 text)

abbrev pub is_host : Address → Option Address → Bool
is_host host (Some a) = same_address a host
is_host host None = false

-- RFC 6120, 4.7.2: a `to` that is there is the server's address
abbrev pub names_host : Address → Option (List ℕ) → Bool
names_host host None = true
names_host host (Some to) = is_host host (address_if (address_of to))

-- RFC 6120, 4.9.3: the first fault of a header, if it has one
abbrev pub header_fault : Address → Element → List ℕ → Option HeaderFault
header_fault host root default_space =
    if not (has_stream_names root default_space) then Some InvalidNamespace
    else if not (is_version (attr_of (codes "version") root.attrs)) then Some UnsupportedVersion
    else if not (names_host host (attr_of (codes "to") root.attrs)) then Some HostUnknown
    else None

-- Binding.

-- RFC 6120, 7.1
abbrev pub bind_space : List ℕ
bind_space = codes "urn:ietf:params:xml:ns:xmpp-bind"

-- the words of the resource in a `bind`, where one is asked for
abbrev pub words_if : Option Element → Option (List ℕ)
words_if None = None
words_if (Some e) = Some (words_of e.children)

abbrev pub resource_in : Element → Option (List ℕ)
resource_in bind = words_if (child_of bind_space (codes "resource") bind.children)

-- the most bytes that an item of a stream, and so its id, may have
abbrev pub most_id : ℕ
most_id = 65536

abbrev pub binding_by : List ℕ → Element → Option Binding
binding_by id bind = if nat_le (length id) most_id then Some (record { id = id; resource = resource_in bind }) else None

abbrev pub binding_with : Option (List ℕ) → Option Element → Option Binding
binding_with (Some id) (Some bind) = binding_by id bind
binding_with (Some id) None = None
binding_with None bind = None

abbrev pub is_set : Option (List ℕ) → Bool
is_set value = has_value (codes "set") value

abbrev pub is_binding_iq : Element → Bool
is_binding_iq e =
    bytes_eq e.name.space client_space && bytes_eq e.name.local (codes "iq") && is_set (attr_of (codes "type") e.attrs) && (element_count e.children == 1)

-- RFC 6120, 7.6 and 7.7: an iq of the type `set` with an id, whose one child element is `bind`
abbrev pub binding_of : Element → Option Binding
binding_of e =
    if is_binding_iq e then binding_with (attr_of (codes "id") e.attrs) (child_of bind_space (codes "bind") e.children) else None

-- Stanzas.

abbrev pub is_user : Address → Option Address → Bool
is_user user (Some a) = same_bare a user
is_user user None = false

-- RFC 6120, 8.1.2.1: a `from` that is there is an address of the user
abbrev pub is_from : Address → Option (List ℕ) → Bool
is_from user None = true
is_from user (Some text) = is_user user (address_if (address_of text))

-- the bare address of a user at a domain
abbrev pub user_at : List ℕ → List ℕ → Address
user_at domain user = record { local = Some user; domain = domain; resource = None }

-- the address of a domain
abbrev pub host_at : List ℕ → Address
host_at domain = record { local = None; domain = domain; resource = None }
