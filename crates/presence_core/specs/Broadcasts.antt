-- Presence without an address (RFC 6121, 4.2 to 4.5).
use Rattle.std.specs.Prelude.{ℕ, ◌==◌, ℤ, List, [], ◌∷◌, ◌++◌, map, Bool, true, not, ◌&&◌, codes, Option, Some, None, if◌then◌else◌}
use Rattle.std.specs.List.{filter, list_any}
use Rattle.jid_core.specs.Addresses.{Address, address_text}
use Rattle.stanza_tree.specs.Spelling.{client_space, text}
use Rattle.stanza_tree.specs.declared.frame.Origin.TheVariants.{Direct}
use Rattle.stanza_tree.specs.declared.node.Element.{Element}
use Rattle.stanza_model.specs.Errors.{element_of, plain_attr}
use Rattle.stanza_model.specs.Replies.{refused, said_to}
use Rattle.stanza_model.specs.declared.condition.Condition.TheVariants.{BadRequest}
use Rattle.stanza_model.specs.declared.effect.Change.TheVariants as change
use Rattle.stanza_model.specs.declared.effect.Effect.{Effect}
use Rattle.stanza_model.specs.declared.effect.Effect.TheVariants.{Queue, Set}
use Rattle.stanza_model.specs.declared.here.Here.{Here}
use Rattle.stanza_model.specs.declared.kinds.PresenceForm.TheVariants.{Available, Unavailable}
use Rattle.stanza_model.specs.declared.shared.Shown.{Shown}
use Rattle.stanza_model.specs.declared.stanza.Stanza.{Stanza}
use Rattle.stanza_model.specs.declared.stanza.Stanza.TheVariants.{Presence}
use Rattle.presence_core.specs.Copies.{copies, presence_text}
use Rattle.presence_core.specs.Priorities.{priority_in}

-- `<presence from='ADDRESS' type='FORM'/>`
abbrev pub presence_from : Address → List ℕ → Element
presence_from from form =
    element_of client_space (codes "presence") (plain_attr (codes "from") (address_text from) ∷ plain_attr (codes "type") form ∷ []) []

-- Available.

-- RFC 6121, 4.2.2 and 4.4.2: the session is available, and each session that sees it, in their order, is sent its presence
abbrev pub announced : ℤ → Here → Element → List Here → List Effect
announced priority who e watchers =
    Set (change.Available who.session (presence_text who e) priority) ∷ copies (presence_text who e) watchers

-- RFC 6121, 4.3.2: the presence of another session, which this one sees
abbrev pub shown_to : Here → Shown → Effect
shown_to who shown = Queue who.session shown.to shown.rest Direct

-- RFC 6121, 3.1.3: one who asked while no session was available
abbrev pub request_from : Address → Element
request_from x = presence_from x (codes "subscribe")

abbrev pub asked_by : Here → Address → Effect
asked_by who x = said_to who (request_from x)

-- RFC 6121, 4.2.2: only with its initial presence, that is where it was unavailable
abbrev pub welcome : Here → List Shown → List Address → List Effect
welcome who shown asking = if who.available then [] else map (shown_to who) shown ++ map (asked_by who) asking

-- RFC 6121, 4.7.2.3: words that are no priority are a bad request
abbrev pub with_priority : Here → Stanza → Option ℤ → (ℤ → List Effect) → List Effect
with_priority who st None effects = refused who st BadRequest
with_priority who st (Some priority) effects = effects priority

-- a stanza of another form, or with an address, is none of this table's
abbrev pub available : Here → Stanza → List Here → List Shown → List Address → List Effect
available who (Presence None Available e) watchers shown asking =
    with_priority who (Presence None Available e) (priority_in e) (λ priority. announced priority who e watchers ++ welcome who shown asking)
available who st watchers shown asking = []

-- Unavailable.

-- whether a session is one of these
abbrev pub is_among : List Here → Here → Bool
is_among sessions h = list_any (λ other. other.session == h.session) sessions

-- a session that departs is sent nothing
abbrev pub is_sent : Option ℕ → Here → Bool
is_sent None h = true
is_sent (Some departing) h = not (h.session == departing)

-- those who get it, but for those who got it
abbrev pub others : Option ℕ → List Here → List Here → List Here
others departing got receivers = filter (λ h. is_sent departing h && not (is_among got h)) receivers

-- RFC 6121, 4.5.2: only a session that was available is seen to be so no more
abbrev pub seen_by : Here → List Here → List Here
seen_by who watchers = if who.available then watchers else []

abbrev pub set_unavailable : Here → List Effect
set_unavailable who = if who.available then Set (change.Unavailable who.session) ∷ [] else []

-- RFC 6121, 4.5.2: to those who see the session, which is unavailable then
abbrev pub told_watchers : Option ℕ → Here → List ℕ → List Here → List Effect
told_watchers departing who rest watchers = copies rest (others departing [] (seen_by who watchers)) ++ set_unavailable who

-- RFC 6121, 4.6.3: and then to those who were sent presence by the session alone, and didn't get it
abbrev pub told_others : Option ℕ → Here → List ℕ → List Here → List Here → List Effect
told_others departing who rest watchers directed = copies rest (others departing (seen_by who watchers) directed)

-- the directed list is empty then
abbrev pub leaves : Option ℕ → Here → List ℕ → List Here → List Here → List Effect
leaves departing who rest watchers directed =
    told_watchers departing who rest watchers ++ told_others departing who rest watchers directed ++ Set (change.Directed who.session []) ∷ []

-- RFC 6121, 4.5.2: the server's own, where a session departs without it
abbrev pub departure : Here → Element
departure who = presence_from who.address (codes "unavailable")

-- a stanza of another form, or with an address, is none of this table's
abbrev pub unavailable : Here → Option Stanza → List Here → List Here → List Effect
unavailable who None watchers directed = leaves (Some who.session) who (text (departure who)) watchers directed
unavailable who (Some (Presence None Unavailable e)) watchers directed = leaves None who (presence_text who e) watchers directed
unavailable who (Some st) watchers directed = []
