-- What comes of a message (RFC 6120, 10; RFC 6121, 8.5). The rows go from the top down, and the first that fits decides.
use Rattle.std.specs.Prelude.{ℕ, pos, ◌*◌, nat_lt, List, [], ◌∷◌, ◌++◌, map, length, Bool, true, false, ◌&&◌, int_le, Option, Some, None, if◌then◌else◌}
use Rattle.std.specs.List.{filter}
use Rattle.jid_core.specs.Addresses.{Address, bare, same_part, address_text}
use Rattle.stanza_tree.specs.Entries.{frame}
use Rattle.stanza_tree.specs.Spelling.{text}
use Rattle.stanza_tree.specs.Stamps.{sent_by}
use Rattle.stanza_tree.specs.declared.frame.Origin.TheVariants.{Direct}
use Rattle.stanza_tree.specs.declared.node.Element.{Element}
use Rattle.stanza_model.specs.Ids.{has_body, told_with_id, without_ids}
use Rattle.stanza_model.specs.Replies.{refused}
use Rattle.stanza_model.specs.declared.condition.Condition.TheVariants.{RemoteServerNotFound, ResourceConstraint, ServiceUnavailable}
use Rattle.stanza_model.specs.declared.effect.Effect.{Effect}
use Rattle.stanza_model.specs.declared.effect.Effect.TheVariants.{Queue, Keep}
use Rattle.stanza_model.specs.declared.here.Here.{Here}
use Rattle.stanza_model.specs.declared.keeping.Keeping.{Keeping}
use Rattle.stanza_model.specs.declared.kinds.MessageForm.{MessageForm}
use Rattle.stanza_model.specs.declared.kinds.MessageForm.TheVariants.{Chat, Normal, Headline, Groupchat, Error}
use Rattle.stanza_model.specs.declared.stanza.Stanza.{Stanza}
use Rattle.stanza_model.specs.declared.stanza.Stanza.TheVariants.{Message}
use Rattle.stanza_router.specs.declared.message.Route.{Route}
use Rattle.stanza_router.specs.declared.message.Route.TheVariants.{Deliver, Refuse, Drop}
use Rattle.stanza_router.specs.declared.places.Place.{Place}
use Rattle.stanza_router.specs.declared.places.Place.TheVariants.{Account, Server, User, UserAt, Service, Room, RoomAt, Foreign}

-- Who gets it, of the sessions of a user that go on.

-- RFC 6121, 8.5.2.1.1: available, with a priority that is not negative
abbrev pub is_reached : Here → Bool
is_reached h = h.available && int_le (pos 0) h.priority

-- RFC 6121, 8.5.2.1.1: to a user
abbrev pub of_user : MessageForm → List Here → List Here
of_user Chat sessions = filter is_reached sessions
of_user Normal sessions = filter is_reached sessions
of_user Headline sessions = filter is_reached sessions
of_user Groupchat sessions = []
of_user Error sessions = []

-- RFC 6121, 8.5.3.2.1: where no session has the address, a chat message goes to the user
abbrev pub else_of_user : MessageForm → List Here → List Here → List Here
else_of_user form sessions (h ∷ more) = h ∷ more
else_of_user Chat sessions [] = of_user Chat sessions
else_of_user form sessions [] = []

-- of one user no two have the same resource
abbrev pub at_address : List ℕ → List Here → List Here
at_address resource sessions = filter (λ h. same_part h.address.resource (Some resource)) sessions

-- RFC 6121, 8.5.3.1: to the session of that address
abbrev pub of_full : MessageForm → List ℕ → List Here → List Here
of_full form resource sessions = else_of_user form sessions (at_address resource sessions)

abbrev pub receivers_of : MessageForm → Place → List Here → List Here
receivers_of form Account sessions = of_user form sessions
receivers_of form (User local) sessions = of_user form sessions
receivers_of form (UserAt local resource) sessions = of_full form resource sessions
receivers_of form place sessions = []

-- What is done with it.

-- RFC 6121, 8.5.2.1.1: to a user
abbrev pub to_user : MessageForm → Route
to_user Chat = Deliver
to_user Normal = Deliver
to_user Headline = Deliver
to_user Groupchat = Refuse ServiceUnavailable
to_user Error = Drop

-- RFC 6121, 8.5.3.2.1: to an address that no session has
abbrev pub to_no_session : MessageForm → Route
to_no_session Chat = Deliver
to_no_session Normal = Refuse ServiceUnavailable
to_no_session Headline = Refuse ServiceUnavailable
to_no_session Groupchat = Refuse ServiceUnavailable
to_no_session Error = Drop

-- RFC 6121, 8.5.3.1: a message of any type goes to the session of its address
abbrev pub to_full : MessageForm → List Here → Route
to_full form (h ∷ more) = Deliver
to_full form [] = to_no_session form

-- RFC 6121, 8.5.1: nothing goes to a user without an account
abbrev pub if_known : Bool → Route → Route
if_known false route = Refuse ServiceUnavailable
if_known true route = route

-- by the place, whether its user has an account, the type, and who gets it. Messages to rooms and occupants are XEP-0045's.
abbrev pub route_of : Place → Bool → MessageForm → List Here → Route
route_of Foreign known form receivers = Refuse RemoteServerNotFound
route_of Server known form receivers = Refuse ServiceUnavailable
route_of Service known form receivers = Refuse ServiceUnavailable
route_of Account known form receivers = if_known known (to_user form)
route_of (User local) known form receivers = if_known known (to_user form)
route_of (UserAt local resource) known form receivers = if_known known (to_full form receivers)
route_of (Room local) known form receivers = Drop
route_of (RoomAt local nick) known form receivers = Drop

-- What is queued.

-- RFC 6121, 8.1 and RFC 6120, 10.3: a message keeps its address; without one it is for the sender's bare address
abbrev pub addressed : Here → Option Address → Address
addressed who None = bare who.address
addressed who (Some to) = to

-- RFC 6120, 8.1.2.1: a stanza for one session comes from the sender's full address
abbrev pub copied_to : Here → Option Address → Element → (session : ℕ) → Effect
copied_to who to e session = Queue session (address_text (addressed who to)) (text (sent_by (address_text who.address) e)) Direct

abbrev pub copied : Here → Option Address → Element → Here → Effect
copied who to e receiver = copied_to who to e receiver.session

-- What is kept (XEP-0313, 2).

-- chat and normal messages with a body
abbrev pub is_kept : MessageForm → Element → Bool
is_kept Chat e = has_body e
is_kept Normal e = has_body e
is_kept form e = false

-- whose archive and sessions a message is for
abbrev pub receiver : Here → Option Address → Address
receiver who to = bare (addressed who to)

-- XEP-0359, 5: no message has an id in the receiver's name but the one that its archive gave
abbrev pub plain_text : Here → Option Address → Element → List ℕ
plain_text who to e = text (sent_by (address_text who.address) (without_ids (receiver who to) e))

abbrev pub told_text : Here → Option Address → Element → (row : ℕ) → List ℕ
told_text who to e row = text (sent_by (address_text who.address) (told_with_id (receiver who to) row e))

-- a row's text is the message with its address, and without an id
abbrev pub row_text : Here → Option Address → Element → List ℕ
row_text who to e = frame (record { to = address_text (addressed who to); rest = plain_text who to e; origin = Direct })

-- both are users of this server, so their local parts tell whether they are one
abbrev pub is_to_oneself : Here → Option Address → Bool
is_to_oneself who to = same_part (addressed who to).local who.address.local

-- one row where both are one user
abbrev pub row_count : Here → Option Address → ℕ
row_count who to = if is_to_oneself who to then 1 else 2

abbrev pub row_of : Option (List ℕ) → (peer : Address) → (text : List ℕ) → (moment : ℕ) → List Effect
row_of None peer text moment = []
row_of (Some user) peer text moment = Keep user peer text moment ∷ []

-- the sender's row, of the message's address, and the receiver's, of the sender's
abbrev pub rows_for : Here → Option Address → (text : List ℕ) → (moment : ℕ) → List Effect
rows_for who to text moment =
    row_of who.address.local (addressed who to) text moment
    ++ (if is_to_oneself who to then [] else row_of (addressed who to).local who.address text moment)

-- the rows' texts pass the room that there is
abbrev pub is_too_much : Here → Option Address → Element → Keeping → Bool
is_too_much who to e keeping = nat_lt keeping.free (row_count who to * length (row_text who to e))

-- What is delivered.

abbrev pub queued_as : Here → Option Address → (rest : List ℕ) → (session : ℕ) → Effect
queued_as who to rest session = Queue session (address_text (addressed who to)) rest Direct

abbrev pub told : Here → Stanza → Option Address → Element → Keeping → (sessions : List ℕ) → List Effect
told who st to e keeping sessions =
    if is_too_much who to e keeping then refused who st ResourceConstraint
    else map (queued_as who to (told_text who to e keeping.row)) sessions ++ rows_for who to (row_text who to e) keeping.moment

abbrev pub given : Here → Stanza → Option Address → MessageForm → Element → Keeping → (sessions : List ℕ) → List Effect
given who st to form e keeping sessions =
    if is_kept form e then told who st to e keeping sessions
    else map (queued_as who to (plain_text who to e)) sessions

abbrev pub routed : Here → Stanza → List Effect → Route → List Effect
routed who st copies Deliver = copies
routed who st copies (Refuse condition) = refused who st condition
routed who st copies Drop = []

-- a stanza that is no message is none of this table's
abbrev pub deliveries : Here → Stanza → Place → Bool → List Here → Keeping → List Effect
deliveries who (Message to form e) place known receivers keeping =
    routed who (Message to form e) (given who (Message to form e) to form e keeping (map (λ h. h.session) receivers)) (route_of place known form receivers)
deliveries who st place known receivers keeping = []

-- to the session that goes on at its address
abbrev pub given_to : Here → Stanza → (session : ℕ) → Keeping → List Effect
given_to who (Message to form e) session keeping = given who (Message to form e) to form e keeping (session ∷ [])
given_to who st session keeping = []
