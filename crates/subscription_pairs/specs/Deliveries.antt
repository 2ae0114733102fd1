-- The presence that is queued because of a subscription (RFC 6121, 3).
use Rattle.std.specs.Prelude.{ℕ, List, [], ◌∷◌, map, flat_map, codes, Bool, Option, Some, None}
use Rattle.std.specs.List.{filter}
use Rattle.jid_core.specs.Addresses.{Address, address_text}
use Rattle.stanza_tree.specs.Spelling.{client_space, text}
use Rattle.stanza_tree.specs.declared.frame.Origin.TheVariants.{Direct}
use Rattle.stanza_tree.specs.declared.node.Element.{Element}
use Rattle.stanza_model.specs.Errors.{attr_if, plain_attr, element_of}
use Rattle.stanza_model.specs.Replies.{said_to}
use Rattle.stanza_model.specs.declared.effect.Effect.{Effect}
use Rattle.stanza_model.specs.declared.effect.Effect.TheVariants.{Queue}
use Rattle.stanza_model.specs.declared.here.Here.{Here}
use Rattle.stanza_model.specs.declared.kinds.PresenceForm.{PresenceForm}
use Rattle.stanza_model.specs.declared.kinds.PresenceForm.TheVariants.{Available, Unavailable, Subscribe, Subscribed, Unsubscribe, Unsubscribed, Probe, Error}
use Rattle.stanza_model.specs.declared.shared.Show.{Show}
use Rattle.stanza_model.specs.declared.shared.Show.TheVariants.{Nothing, MineAvailable, MineUnavailable, TheirsUnavailable}
use Rattle.subscription_pairs.specs.Users.{User}

-- RFC 6121, 4.7.1: a presence without a type is available
abbrev pub form_name : PresenceForm → Option (List ℕ)
form_name Available = None
form_name Unavailable = Some (codes "unavailable")
form_name Subscribe = Some (codes "subscribe")
form_name Subscribed = Some (codes "subscribed")
form_name Unsubscribe = Some (codes "unsubscribe")
form_name Unsubscribed = Some (codes "unsubscribed")
form_name Probe = Some (codes "probe")
form_name Error = Some (codes "error")

-- `<presence from='ADDRESS' type='TYPE'/>`
abbrev pub presence_from : Address → PresenceForm → Element
presence_from address form =
    element_of client_space (codes "presence") (plain_attr (codes "from") (address_text address) ∷ attr_if (codes "type") (form_name form)) []

-- RFC 6121, 3.1.3: a request goes to available sessions. RFC 6121, 3.1.6, 3.2.3 and 3.3.3: the others go to those that asked for the roster.
abbrev pub receives : PresenceForm → Here → Bool
receives Subscribe h = h.available
receives form h = h.wants_roster

abbrev pub delivered : PresenceForm → Address → List Here → List Effect
delivered form address sessions = map (λ h. said_to h (presence_from address form)) (filter (receives form) sessions)

abbrev pub available_of : List Here → List Here
available_of sessions = filter (λ h. h.available) sessions

-- a presence without its `to`, for each available session
abbrev pub sent_to : List Here → List ℕ → List Effect
sent_to sessions presence = map (λ h. Queue h.session (address_text h.address) presence Direct) (available_of sessions)

abbrev pub all_sent_to : List Here → List (List ℕ) → List Effect
all_sent_to sessions presences = flat_map (sent_to sessions) presences

-- RFC 6121, 4.5.2: that each available session is unavailable, from its full address
abbrev pub unavailable_of : List Here → List (List ℕ)
unavailable_of sessions = map (λ h. text (presence_from h.address Unavailable)) (available_of sessions)

-- RFC 6121, 3.1.5, 3.2.2 and 3.3.3: what is shown because a subscription changed
abbrev pub shown : Show → User → User → List Effect
shown Nothing a b = []
shown MineAvailable a b = all_sent_to b.sessions a.presences
shown MineUnavailable a b = all_sent_to b.sessions (unavailable_of a.sessions)
shown TheirsUnavailable a b = all_sent_to a.sessions (unavailable_of b.sessions)
