-- Directed presence to a user (RFC 6121, 4.6).
use Rattle.std.specs.Prelude.{ℕ, nat_lt, List, [], ◌∷◌, ◌++◌, length, Bool, not, ◌||◌, Option, Some, None, if◌then◌else◌}
use Rattle.std.specs.List.{filter, list_any}
use Rattle.jid_core.specs.Addresses.{Address, same_address}
use Rattle.stanza_tree.specs.declared.node.Element.{Element}
use Rattle.stanza_model.specs.Replies.{refused}
use Rattle.stanza_model.specs.declared.condition.Condition.TheVariants.{ResourceConstraint}
use Rattle.stanza_model.specs.declared.effect.Change.TheVariants.{Directed}
use Rattle.stanza_model.specs.declared.effect.Effect.{Effect}
use Rattle.stanza_model.specs.declared.effect.Effect.TheVariants.{Set}
use Rattle.stanza_model.specs.declared.here.Here.{Here}
use Rattle.stanza_model.specs.declared.kinds.PresenceForm.TheVariants.{Available, Unavailable}
use Rattle.stanza_model.specs.declared.stanza.Stanza.{Stanza}
use Rattle.stanza_model.specs.declared.stanza.Stanza.TheVariants.{Presence}
use Rattle.presence_core.specs.Copies.{copies, presence_text}

-- the most addresses of a session's directed list
abbrev pub most_directed : ℕ
most_directed = 1000

abbrev pub is_listed : Address → List Address → Bool
is_listed to list = list_any (λ address. same_address address to) list

abbrev pub has_room : Address → List Address → Bool
has_room to list = is_listed to list || nat_lt (length list) most_directed

-- RFC 6121, 4.6.3: a new address stands last
abbrev pub with_address : Address → List Address → List Address
with_address to list = if is_listed to list then list else list ++ to ∷ []

abbrev pub without_address : Address → List Address → List Address
without_address to list = filter (λ address. not (same_address address to)) list

-- RFC 6121, 4.6.4: to each of these sessions, and then the list is this
abbrev pub delivered : Here → Element → List Here → List Address → List Effect
delivered who e receivers list = copies (presence_text who e) receivers ++ Set (Directed who.session list) ∷ []

-- RFC 6121, 4.6.3: the address is in the list whoever gets the presence. A stanza of another form, or without an address, is none of
-- this table's.
abbrev pub directed : Here → Stanza → List Here → List Address → List Effect
directed who (Presence (Some to) Available e) receivers list =
    if has_room to list then delivered who e receivers (with_address to list)
    else refused who (Presence (Some to) Available e) ResourceConstraint
directed who (Presence (Some to) Unavailable e) receivers list = delivered who e receivers (without_address to list)
directed who st receivers list = []
