-- The names and types of stanzas (RFC 6120, 8.2; RFC 6121, 4.7.1 and 5.2.2).
use Rattle.std.specs.Prelude.{ℕ, List, Bool, true, false, codes, bytes_eq, Option, Some, None, if◌then◌else◌}
use Rattle.stanza_model.specs.declared.kinds.Kind.{Kind}
use Rattle.stanza_model.specs.declared.kinds.Kind.TheVariants.{Message, Presence, Iq}
use Rattle.stanza_model.specs.declared.kinds.MessageForm.{MessageForm}
use Rattle.stanza_model.specs.declared.kinds.MessageForm.TheVariants as message
use Rattle.stanza_model.specs.declared.kinds.PresenceForm.{PresenceForm}
use Rattle.stanza_model.specs.declared.kinds.PresenceForm.TheVariants as presence
use Rattle.stanza_model.specs.declared.kinds.IqForm.{IqForm}
use Rattle.stanza_model.specs.declared.kinds.IqForm.TheVariants as iq

abbrev pub kind_name : Kind → List ℕ
kind_name Message = codes "message"
kind_name Presence = codes "presence"
kind_name Iq = codes "iq"

-- the kind of that name, if it is one
abbrev pub kind_named : List ℕ → Option Kind
kind_named name =
    if bytes_eq name (codes "message") then Some Message
    else if bytes_eq name (codes "presence") then Some Presence
    else if bytes_eq name (codes "iq") then Some Iq
    else None

-- RFC 6121, 5.2.2: a message of an unknown type is normal
abbrev pub message_form_named : List ℕ → MessageForm
message_form_named value =
    if bytes_eq value (codes "chat") then message.Chat
    else if bytes_eq value (codes "headline") then message.Headline
    else if bytes_eq value (codes "groupchat") then message.Groupchat
    else if bytes_eq value (codes "error") then message.Error
    else message.Normal

-- and so is one without a type
abbrev pub message_form : Option (List ℕ) → MessageForm
message_form None = message.Normal
message_form (Some value) = message_form_named value

-- RFC 6121, 4.7.1: the type of a presence, if it is known
abbrev pub presence_form_named : List ℕ → Option PresenceForm
presence_form_named value =
    if bytes_eq value (codes "unavailable") then Some presence.Unavailable
    else if bytes_eq value (codes "subscribe") then Some presence.Subscribe
    else if bytes_eq value (codes "subscribed") then Some presence.Subscribed
    else if bytes_eq value (codes "unsubscribe") then Some presence.Unsubscribe
    else if bytes_eq value (codes "unsubscribed") then Some presence.Unsubscribed
    else if bytes_eq value (codes "probe") then Some presence.Probe
    else if bytes_eq value (codes "error") then Some presence.Error
    else None

-- without a type it is available
abbrev pub presence_form : Option (List ℕ) → Option PresenceForm
presence_form None = Some presence.Available
presence_form (Some value) = presence_form_named value

-- RFC 6120, 8.2.3: the type of an iq, if it is one of the four
abbrev pub iq_form_named : List ℕ → Option IqForm
iq_form_named value =
    if bytes_eq value (codes "get") then Some iq.Get
    else if bytes_eq value (codes "set") then Some iq.Set
    else if bytes_eq value (codes "result") then Some iq.Result
    else if bytes_eq value (codes "error") then Some iq.Error
    else None

-- an iq has to have one
abbrev pub iq_form : Option (List ℕ) → Option IqForm
iq_form None = None
iq_form (Some value) = iq_form_named value

-- RFC 6120, 8.2.3: a `get` and a `set` have exactly one child element
abbrev pub is_request : IqForm → Bool
is_request iq.Get = true
is_request iq.Set = true
is_request iq.Result = false
is_request iq.Error = false
