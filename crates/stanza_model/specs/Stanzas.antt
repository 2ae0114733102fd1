-- Stanzas as their elements say them (RFC 6120, 8).
use Rattle.std.specs.Prelude.{ℕ, ◌+◌, ◌==◌, List, [], ◌∷◌, Bool, false, not, ◌&&◌, codes, bytes_eq, Option, Some, None, is_some, Result, Ok, Err, if◌then◌else◌}
use Rattle.std.specs.Option.{option_map, option_and_then}
use Rattle.stanza_tree.specs.Attributes.{attr_of}
use Rattle.stanza_tree.specs.Spelling.{client_space}
use Rattle.stanza_tree.specs.declared.node.Element.{Element}
use Rattle.stanza_tree.specs.declared.node.Node.{Node}
use Rattle.stanza_tree.specs.declared.node.Node.TheViews.{out-Node}
use Rattle.stanza_tree.specs.declared.node.Node.TheOpen.{Node-F, Child, Words}
use Rattle.jid_core.specs.Addresses.{Address, address_of}
use Rattle.jid_core.specs.declared.fault.JidFault.{JidFault}
use Rattle.stanza_model.specs.Kinds.{kind_named, message_form, presence_form, iq_form, is_request}
use Rattle.stanza_model.specs.declared.kinds.Kind.{Kind}
use Rattle.stanza_model.specs.declared.kinds.Kind.TheVariants as kind
use Rattle.stanza_model.specs.declared.kinds.PresenceForm.{PresenceForm}
use Rattle.stanza_model.specs.declared.kinds.IqForm.{IqForm}
use Rattle.stanza_model.specs.declared.condition.Condition.{Condition}
use Rattle.stanza_model.specs.declared.condition.Condition.TheVariants.{BadRequest, JidMalformed}
use Rattle.stanza_model.specs.declared.stanza.Stanza.{Stanza}
use Rattle.stanza_model.specs.declared.stanza.Stanza.TheVariants as stanza

-- RFC 6120, 8.1: a stanza is a message, a presence or an iq in `jabber:client`
abbrev pub kind_of : Element → Option Kind
kind_of e = if bytes_eq e.name.space client_space then kind_named e.name.local else None

abbrev pub type_of : Element → Option (List ℕ)
type_of e = attr_of (codes "type") e.attrs

abbrev pub id_of : Element → Option (List ℕ)
id_of e = attr_of (codes "id") e.attrs

-- the address that a text is read as, if it is one
abbrev pub address_if : Result Address JidFault → Option Address
address_if (Ok a) = Some a
address_if (Err fault) = None

-- the address of a stanza: that of its `to`, where that can be read
abbrev pub address_in : Element → Option Address
address_in e = option_and_then (λ text. address_if (address_of text)) (attr_of (codes "to") e.attrs)

-- it has a `to`, which cannot be read
abbrev pub is_unreadable : Element → Bool
is_unreadable e = is_some (attr_of (codes "to") e.attrs) && not (is_some (address_in e))

-- how many elements are among the children; words are not
abbrev pub element_count_in : Node-F Node Element → ℕ
element_count_in (Child e) = 1
element_count_in (Words w) = 0

abbrev pub element_count : List Node → ℕ
element_count [] = 0
element_count (n ∷ ns) = element_count_in (out-Node n) + element_count ns

-- an attribute is there, and its value is this text
abbrev pub has_value : List ℕ → Option (List ℕ) → Bool
has_value text None = false
has_value text (Some value) = bytes_eq value text

-- RFC 6120, 8.2.3 and 8.3.1: a stanza of the type `error` is never answered, and neither is an iq of the type `result`
abbrev pub is_answered : Kind → Element → Bool
is_answered kind.Message e = not (has_value (codes "error") (type_of e))
is_answered kind.Presence e = not (has_value (codes "error") (type_of e))
is_answered kind.Iq e = not (has_value (codes "error") (type_of e)) && not (has_value (codes "result") (type_of e))

-- of a faulty stanza: its kind, its address where that can be read, its id where it has one, whether it is answered, and by which condition
abbrev pub faulty : Kind → Condition → Element → Stanza
faulty kind condition e = stanza.Faulty kind (address_in e) (id_of e) (is_answered kind e) condition

-- a stanza whose `to` cannot be read is faulty
abbrev pub unless_unreadable : Kind → Stanza → Element → Stanza
unless_unreadable kind st e = if is_unreadable e then faulty kind JidMalformed e else st

abbrev pub message_of : Element → Stanza
message_of e = unless_unreadable kind.Message (stanza.Message (address_in e) (message_form (type_of e)) e) e

-- a presence of an unknown type is a bad request
abbrev pub presence_by : Option PresenceForm → Element → Stanza
presence_by None e = faulty kind.Presence BadRequest e
presence_by (Some form) e = unless_unreadable kind.Presence (stanza.Presence (address_in e) form e) e

-- RFC 6120, 8.2.3: an iq without an id, of a wrong type, or a request without exactly one child element is a bad request
abbrev pub has_wrong_content : IqForm → Element → Bool
has_wrong_content form e = is_request form && not (element_count e.children == 1)

abbrev pub iq_by : Option (List ℕ) → Option IqForm → Element → Stanza
iq_by None form e = faulty kind.Iq BadRequest e
iq_by (Some id) None e = faulty kind.Iq BadRequest e
iq_by (Some id) (Some form) e =
    if has_wrong_content form e then faulty kind.Iq BadRequest e
    else unless_unreadable kind.Iq (stanza.Iq (address_in e) id form e) e

abbrev pub stanza_as : Kind → Element → Stanza
stanza_as kind.Message e = message_of e
stanza_as kind.Presence e = presence_by (presence_form (type_of e)) e
stanza_as kind.Iq e = iq_by (id_of e) (iq_form (type_of e)) e

-- the stanza that an element is, if it is one
abbrev pub stanza_of : Element → Option Stanza
stanza_of e = option_map (λ k. stanza_as k e) (kind_of e)

-- The parts of any stanza.

abbrev pub kind_in : Stanza → Kind
kind_in (stanza.Message to form e) = kind.Message
kind_in (stanza.Presence to form e) = kind.Presence
kind_in (stanza.Iq to id form e) = kind.Iq
kind_in (stanza.Faulty k to id answered condition) = k

abbrev pub to_in : Stanza → Option Address
to_in (stanza.Message to form e) = to
to_in (stanza.Presence to form e) = to
to_in (stanza.Iq to id form e) = to
to_in (stanza.Faulty k to id answered condition) = to

abbrev pub element_in : Stanza → Option Element
element_in (stanza.Message to form e) = Some e
element_in (stanza.Presence to form e) = Some e
element_in (stanza.Iq to id form e) = Some e
element_in (stanza.Faulty k to id answered condition) = None

abbrev pub id_in : Stanza → Option (List ℕ)
id_in (stanza.Message to form e) = id_of e
id_in (stanza.Presence to form e) = id_of e
id_in (stanza.Iq to id form e) = Some id
id_in (stanza.Faulty k to id answered condition) = id
