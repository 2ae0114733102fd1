-- What the server itself says to the sender of a stanza, as it is queued: the address stands beside the text, which has no `to`.
use Rattle.std.specs.Prelude.{ℕ, List, [], ◌∷◌, Bool, true, false, codes, if◌then◌else◌}
use Rattle.stanza_tree.specs.Spelling.{client_space, text}
use Rattle.stanza_tree.specs.declared.frame.Origin.TheVariants.{Direct}
use Rattle.stanza_tree.specs.declared.node.Element.{Element}
use Rattle.stanza_tree.specs.declared.node.Node.{Node}
use Rattle.stanza_tree.specs.declared.node.Node.TheOpen.{Child}
use Rattle.stanza_tree.specs.declared.node.Node.TheViews.{roll-Node}
use Rattle.jid_core.specs.Addresses.{address_text}
use Rattle.stanza_model.specs.Errors.{element_of, error_child, reply_attrs}
use Rattle.stanza_model.specs.Kinds.{kind_name}
use Rattle.stanza_model.specs.Stanzas.{kind_in}
use Rattle.stanza_model.specs.declared.condition.Condition.{Condition}
use Rattle.stanza_model.specs.declared.effect.Effect.{Effect}
use Rattle.stanza_model.specs.declared.effect.Effect.TheVariants.{Queue}
use Rattle.stanza_model.specs.declared.here.Here.{Here}
use Rattle.stanza_model.specs.declared.kinds.MessageForm.TheVariants as message
use Rattle.stanza_model.specs.declared.kinds.PresenceForm.TheVariants as presence
use Rattle.stanza_model.specs.declared.kinds.IqForm.TheVariants as iq
use Rattle.stanza_model.specs.declared.stanza.Stanza.{Stanza}
use Rattle.stanza_model.specs.declared.stanza.Stanza.TheVariants.{Message, Presence, Iq, Faulty}

-- RFC 6120, 8.2.3 and 8.3.1: a stanza of the type `error` is never answered, and neither is an iq of the type `result`
abbrev pub may_be_answered : Stanza → Bool
may_be_answered (Message to message.Error e) = false
may_be_answered (Presence to presence.Error e) = false
may_be_answered (Iq to id iq.Result e) = false
may_be_answered (Iq to id iq.Error e) = false
may_be_answered (Faulty kind to id answered condition) = answered
may_be_answered st = true

-- a reply of this type but for its `to`
abbrev pub reply : Stanza → List ℕ → List Node → Element
reply st form content = element_of client_space (kind_name (kind_in st)) (reply_attrs st form) content

abbrev pub one_child : Element → List Node
one_child e = roll-Node (Child e) ∷ []

-- RFC 6120, 8.2.3: the reply of the type `result`
abbrev pub result_of : Stanza → List Node → Element
result_of st content = reply st (codes "result") content

-- RFC 6120, 8.3.1: the reply of the type `error`
abbrev pub error_of : Stanza → Condition → Element
error_of st condition = reply st (codes "error") (one_child (error_child condition))

-- an element that the server says to a session is queued for it, to its full address
abbrev pub said_to : Here → Element → Effect
said_to who e = Queue who.session (address_text who.address) (text e) Direct

-- a stanza is refused by an error that is queued for its sender; one that is never answered is dropped
abbrev pub refused : Here → Stanza → Condition → List Effect
refused who st condition = if may_be_answered st then said_to who (error_of st condition) ∷ [] else []
