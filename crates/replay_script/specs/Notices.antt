-- The stanza of a `note` line.
use Rattle.std.specs.Prelude.{ℕ, nat_le, nat_lt, ◌&&◌, List, [], ◌∷◌, length, codes, Option, Some, None, Result, Ok, Err, if◌then◌else◌}
use Rattle.stanza_tree.specs.Spelling.{text, client_space}
use Rattle.stanza_tree.specs.declared.node.Attr.{Attr}
use Rattle.stanza_tree.specs.declared.node.Element.{Element}
use Rattle.stanza_tree.specs.declared.node.Node.{Node}
use Rattle.stanza_tree.specs.declared.node.Node.TheOpen.{Child, Words}
use Rattle.stanza_tree.specs.declared.node.Node.TheViews.{roll-Node}
use Rattle.jid_core.specs.Addresses.{Address, address_of}
use Rattle.jid_core.specs.declared.fault.JidFault.{JidFault}
use Rattle.stanza_model.specs.declared.stanza.Stanza.{Stanza}
use Rattle.stanza_model.specs.declared.stanza.Stanza.TheVariants.{Message}
use Rattle.stanza_model.specs.declared.kinds.MessageForm.TheVariants.{Headline}
use Rattle.replay_script.specs.Characters.{is_token, is_xml}

-- an attribute in no namespace
abbrev pub plain_attr : List ℕ → List ℕ → Attr
plain_attr local value = record { name = record { space = []; local = local }; value = value }

abbrev pub client_element : List ℕ → List Attr → List Node → Element
client_element local attrs children = record { name = record { space = client_space; local = local }; attrs = attrs; children = children }

abbrev pub body_of : List ℕ → Element
body_of words = client_element (codes "body") [] (roll-Node (Words words) ∷ [])

-- `<message to='ADDRESS' type='headline'><body>WORDS</body></message>`
abbrev pub notice : List ℕ → List ℕ → Element
notice address words =
    client_element (codes "message") (plain_attr (codes "to") address ∷ plain_attr (codes "type") (codes "headline") ∷ [])
    (roll-Node (Child (body_of words)) ∷ [])

-- a stanza of at most 196,608 canonical bytes
abbrev pub fitted : Element → Address → Option Stanza
fitted element to = if nat_le (length (text element)) 196608 then Some (Message (Some to) Headline element) else None

abbrev pub addressed : Element → Result Address JidFault → Option Stanza
addressed element (Ok to) = fitted element to
addressed element (Err fault) = None

-- the address is read as one, and the words are of characters of XML, at least one
abbrev pub notice_of : List ℕ → List ℕ → Option Stanza
notice_of address words =
    if is_token address && is_xml words && nat_lt 0 (length words) then addressed (notice address words) (address_of address) else None
