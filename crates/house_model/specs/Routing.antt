-- What comes of a stanza, by its kind and the place that it is for (RFC 6120, 10; RFC 6121, 8.5). The rows of each table go from the top
-- down, and the first that fits decides. All is read off what the code keeps.
use Rattle.std.specs.Prelude.{ℕ, nat_lt, List, [], ◌∷◌, ◌++◌, flat_map, Bool, true, false, ◌||◌, codes, Option, Some, None, is_some, not, if◌then◌else◌}
use Rattle.std.specs.List.{filter}
use Rattle.std.specs.Option.{option_and_then}
use Rattle.jid_core.specs.Addresses.{Address, same_part}
use Rattle.stanza_tree.specs.Children.{child_of}
use Rattle.stanza_tree.specs.declared.node.Element.{Element}
use Rattle.stanza_model.specs.Replies.{result_of, said_to, refused}
use Rattle.stanza_model.specs.Rosters.{roster_space}
use Rattle.stanza_model.specs.Stanzas.{to_in}
use Rattle.stanza_model.specs.declared.condition.Condition.{Condition}
use Rattle.stanza_model.specs.declared.condition.Condition.TheVariants.{BadRequest, ItemNotFound, NotAcceptable, NotAllowed}
use Rattle.stanza_model.specs.declared.condition.Condition.TheVariants.{RemoteServerNotFound, ResourceConstraint, ServiceUnavailable}
use Rattle.stanza_model.specs.declared.effect.Effect.{Effect}
use Rattle.stanza_model.specs.declared.here.Here.{Here}
use Rattle.stanza_model.specs.declared.keeping.Keeping.{Keeping}
use Rattle.stanza_model.specs.declared.kinds.MessageForm.{MessageForm}
use Rattle.stanza_model.specs.declared.kinds.MessageForm.TheVariants.{Groupchat}
use Rattle.stanza_model.specs.declared.kinds.PresenceForm.{PresenceForm}
use Rattle.stanza_model.specs.declared.kinds.PresenceForm.TheVariants.{Available, Unavailable, Probe, Error}
use Rattle.stanza_model.specs.declared.shared.Contact.{Contact}
use Rattle.stanza_model.specs.declared.stanza.Stanza.{Stanza}
use Rattle.stanza_model.specs.declared.stanza.Stanza.TheVariants.{Message, Presence, Iq, Faulty}
use Rattle.stanza_router.specs.Discovery.{discovery}
use Rattle.stanza_router.specs.Messages.{copied, deliveries, receivers_of}
use Rattle.stanza_router.specs.Places.{place_of}
use Rattle.stanza_router.specs.declared.listed.Listed.{Listed}
use Rattle.stanza_router.specs.declared.places.Place.{Place}
use Rattle.stanza_router.specs.declared.places.Place.TheVariants.{Account, Server, User, UserAt, Service, Room, RoomAt, Foreign}
use Rattle.contact_table.specs.Books.{bare_of, contacts_of, local_user}
use Rattle.roster_book.specs.Requests.{removed_by, roster_get, roster_set}
use Rattle.subscription_pairs.specs.Changes.{removal, subscription}
use Rattle.presence_core.specs.Broadcasts.{available, unavailable}
use Rattle.presence_core.specs.DirectedPresence.{directed}
use Rattle.muc_room.specs.Entering.{enter}
use Rattle.muc_room.specs.Leaving.{leave}
use Rattle.muc_room.specs.Renaming.{rename}
use Rattle.muc_room.specs.Saying.{direct, say}
use Rattle.muc_admin.specs.Administration.{admin}
use Rattle.muc_owner.specs.Inviting.{invite}
use Rattle.muc_admin.specs.Items.{admin_space}
use Rattle.muc_owner.specs.Owning.{owner, owner_space}
use Rattle.muc_service.specs.Rooms.{Hosted, Rooms, is_in}
use Rattle.mam_wire.specs.Answers.{mam_space}
use Rattle.mam_wire.specs.Stamps.{stamp_text}
use Rattle.house_model.specs.ArchiveLookups.{keeping_for, keeping_in, past_in}
use Rattle.house_model.specs.Archives.{archived, archived_of}
use Rattle.house_model.specs.Lookups.{live_at, has_user, here, sessions_of}
use Rattle.house_model.specs.Presences.{asking, directed_by, length_sent, most_of_presence, named, party, shown, watchers}
use Rattle.house_model.specs.Requests.{pings, begins_session, binds_resource, discovers, asks_a_room, gets, sets, queries}
use Rattle.house_model.specs.RoomLookups.{called, listed, numbers_for, room_for, rooms_of}
use Rattle.house_model.specs.States.{World, Kept}
use Rattle.house_model.specs.Traffic.{KeptTraffic}

-- what the rules on stanzas read of the house
pub record Scene : Type 0 where
  pub domain : List ℕ
  pub users : List (List ℕ)
  pub world : World KeptTraffic
  pub moment : ℕ

abbrev pub scene_of : Kept → Scene
scene_of k = record { domain = k.head.domain.domain; users = k.head.users; world = k.world; moment = k.head.moment }

-- the session that goes on at the address of a session
abbrev pub live_for : World KeptTraffic → Place → Option Address → Option ℕ
live_for world (UserAt user resource) (Some to) = live_at world to
live_for world place to = None

-- the user whose the place is, where `own` is the sender
abbrev pub user_in : (own : List ℕ) → Place → Option (List ℕ)
user_in own Account = Some own
user_in own (User user) = Some user
user_in own (UserAt user resource) = Some user
user_in own place = None

-- Messages.

-- where no session goes on at an address, one that has it is over, and isn't chosen
abbrev pub choosable : Place → List Here → List Here
choosable (UserAt user resource) sessions = filter (λ h. not (same_part h.address.resource (Some resource))) sessions
choosable place sessions = sessions

-- whom a message finds: the session that goes on at its address, or those that RFC 6121 chooses among the user's
abbrev pub chosen : World KeptTraffic → MessageForm → Place → Option (List ℕ) → List Here
chosen world form place None = []
chosen world form place (Some user) = receivers_of form place (choosable place (sessions_of world user))

abbrev pub receivers : World KeptTraffic → MessageForm → Place → Option (List ℕ) → Option ℕ → List Here
receivers world form place user (Some s) = here world s ∷ []
receivers world form place user None = chosen world form place user

-- whether a place's user has an account, as one has whose session a message finds
abbrev pub has_account : List (List ℕ) → Option (List ℕ) → List Here → Bool
has_account users user (h ∷ more) = true
has_account users None [] = false
has_account users (Some user) [] = has_user users user

-- XEP-0045, 7.8: an invitation to a room, or a decline of one
abbrev pub is_invitation_in : Option Element → Bool
is_invitation_in None = false
is_invitation_in (Some x) =
    is_some (child_of (codes "http://jabber.org/protocol/muc#user") (codes "invite") x.children)
    || is_some (child_of (codes "http://jabber.org/protocol/muc#user") (codes "decline") x.children)

abbrev pub is_invitation : Element → Bool
is_invitation e = is_invitation_in (child_of (codes "http://jabber.org/protocol/muc#user") (codes "x") e.children)

-- XEP-0045, 7.4: to a room that isn't there
abbrev pub to_no_room : MessageForm → Element → Condition
to_no_room Groupchat e = ItemNotFound
to_no_room form e = if is_invitation e then ItemNotFound else BadRequest

-- XEP-0045, 7.4, 7.8.2 and 8.1: to a room: what is said in it, an invitation to it or a decline of one
abbrev pub to_all_in : Scene → Here → Stanza → MessageForm → Element → Option Hosted → List Effect
to_all_in o who st form e None = refused who st (to_no_room form e)
to_all_in o who st Groupchat e (Some h) = say h.room who st (keeping_in o.world.archives h o.moment) (stamp_text o.moment)
to_all_in o who st form e (Some h) =
    if is_invitation e then invite h.room who st (called o.domain o.world e) else refused who st BadRequest

-- XEP-0045, 7.5: to one who is in a room
abbrev pub to_one_in : Here → Stanza → Option Hosted → List Effect
to_one_in who st None = refused who st ItemNotFound
to_one_in who st (Some h) = direct h.room who st

abbrev pub delivered : List (List ℕ) → Here → Stanza → Place → Option (List ℕ) → Keeping → List Here → List Effect
delivered users who st place user keeping found = deliveries who st place (has_account users user found) found keeping

abbrev pub to_users : Scene → Here → Stanza → MessageForm → Place → Option (List ℕ) → List Effect
to_users o who st form place user =
    delivered o.users who st place user (keeping_for o.world.archives who (to_in st) o.moment)
    (receivers o.world form place user (live_for o.world place (to_in st)))

abbrev pub message : Scene → (own : List ℕ) → Here → Stanza → MessageForm → Element → Place → List Effect
message o own who st form e (Room room) = to_all_in o who st form e (room_for o.world.rooms (to_in st))
message o own who st form e (RoomAt room nick) = to_one_in who st (room_for o.world.rooms (to_in st))
message o own who st form e place = to_users o who st form place (user_in own place)

-- Requests.

-- RFC 6120, 8.2.3: the result has nothing in it
abbrev pub done : Here → Stanza → List Effect
done who st = said_to who (result_of st []) ∷ []

-- XEP-0030: what the server tells of itself, of an account, of the service of rooms and of a room
abbrev pub discovered : List Listed → Here → Stanza → Place → List Effect
discovered rooms who st place = said_to who (discovery place st rooms) ∷ []

-- RFC 6120, 10.3 and 10.5.1: to the sender's account or to the server
abbrev pub to_server : Here → Stanza → Place → List Effect
to_server who st place =
    if begins_session st || pings st then done who st
    else if discovers st then discovered [] who st place
    else if binds_resource st then refused who st NotAllowed
    else refused who st ServiceUnavailable

-- RFC 6121, 2.1: the contacts of the sender

abbrev pub own_contacts : Scene → (own : List ℕ) → List Contact
own_contacts o own = contacts_of o.domain o.world.book own

-- RFC 6121, 2.5.2: the user of this server whom a roster set removes, if any
abbrev pub user_removed : Scene → (own : List ℕ) → Stanza → Option (List ℕ)
user_removed o own st =
    option_and_then (local_user o.domain) (removed_by (bare_of o.domain own) (own_contacts o own) st)

-- neither sees the other any more
abbrev pub parted : Scene → (own : List ℕ) → Option (List ℕ) → List Effect
parted o own None = []
parted o own (Some user) = removal (party o.domain o.world own) (party o.domain o.world user)

-- RFC 6121, 2.3 to 2.5
abbrev pub roster_changed : Scene → (own : List ℕ) → Here → Stanza → List Effect
roster_changed o own who st =
    parted o own (user_removed o own st)
    ++ roster_set (bare_of o.domain own) (own_contacts o own) who (sessions_of o.world own) st

-- to the sender's account
abbrev pub to_account : Scene → (own : List ℕ) → Here → Stanza → List Effect
to_account o own who st =
    if gets roster_space (codes "query") st then roster_get (own_contacts o own) who st
    else if sets roster_space (codes "query") st then roster_changed o own who st
    else if queries mam_space st then archived_of o.world.archives own who st
    else to_server who st Account

-- RFC 6121, 8.5.3: to a session of a user
abbrev pub to_session : World KeptTraffic → Here → Stanza → Option Address → Element → Option ℕ → List Effect
to_session world who st to e (Some s) = copied who to e (here world s) ∷ []
to_session world who st to e None = refused who st ServiceUnavailable

-- XEP-0045, 6.2 and 6.3: to the service of rooms
abbrev pub to_service : Rooms → Here → Stanza → Place → List Effect
to_service rooms who st place =
    if discovers st then discovered (listed rooms) who st place
    else if pings st then done who st
    else refused who st ServiceUnavailable

-- XEP-0045, 9 and 10: who is in a room and what they are to it, and its settings
abbrev pub asked_of : Here → Stanza → Option Hosted → List Effect
asked_of who st None = if asks_a_room st then refused who st ItemNotFound else refused who st ServiceUnavailable
asked_of who st (Some h) =
    if queries admin_space st then admin h.room who st
    else if queries owner_space st then owner h.room who st
    else refused who st ServiceUnavailable

-- XEP-0045, 6.4 and 6.5, and XEP-0313, 4: to a room
abbrev pub to_room : World KeptTraffic → Here → Stanza → Place → Option Hosted → List Effect
to_room world who st place found =
    if discovers st then discovered (listed world.rooms) who st place
    else if pings st then done who st
    else if queries mam_space st then archived world.archives who st found
    else asked_of who st found

abbrev pub iq : Scene → (own : List ℕ) → Here → Stanza → Option Address → Element → Place → List Effect
iq o own who st to e Account = to_account o own who st
iq o own who st to e Server = to_server who st Server
iq o own who st to e (User user) = refused who st ServiceUnavailable
iq o own who st to e (UserAt user resource) = to_session o.world who st to e (live_for o.world (UserAt user resource) to)
iq o own who st to e Service = to_service o.world.rooms who st Service
iq o own who st to e (Room room) = to_room o.world who st (Room room) (room_for o.world.rooms to)
iq o own who st to e (RoomAt room nick) = refused who st ServiceUnavailable
iq o own who st to e Foreign = refused who st RemoteServerNotFound

-- Presence.

-- XEP-0045, 7.14: a session leaves its rooms in the order in which it entered them
abbrev pub leaves_rooms : Rooms → (session : ℕ) → Option Stanza → List Effect
leaves_rooms rooms s st = flat_map (λ h. leave h.room s st) (rooms_of s rooms)

-- RFC 6121, 4.2 to 4.5: for those who see the sender; once it is unavailable, it is in no room
abbrev pub broadcast : Scene → (own : List ℕ) → Here → Stanza → PresenceForm → List Effect
broadcast o own who st Available = available who st (watchers o.world own who) (shown o.world own who) (asking o.domain o.world own)
broadcast o own who st Unavailable =
    unavailable who (Some st) (watchers o.world own who) (named o.world (directed_by o.world who))
    ++ leaves_rooms o.world.rooms who.session (Some st)
broadcast o own who st form = refused who st BadRequest

-- RFC 6121, 4.6: to a user, where it has an account
abbrev pub directed_if : Bool → World KeptTraffic → Here → Stanza → List Here → List Effect
directed_if true world who st receivers = directed who st receivers (directed_by world who)
directed_if false world who st receivers = []

abbrev pub directed_to : Scene → (own : List ℕ) → Here → Stanza → Place → List Here → List Effect
directed_to o own who st place receivers = directed_if (has_account o.users (user_in own place) receivers) o.world who st receivers

-- RFC 6121, 8.5.3.1: an error goes to a session alone
abbrev pub error_to : World KeptTraffic → Here → Address → Element → Option ℕ → List Effect
error_to world who to e (Some s) = copied who (Some to) e (here world s) ∷ []
error_to world who to e None = []

-- RFC 6121, 3: a subscription is between users that have accounts. A contact for which the sender's roster has no room is refused.

abbrev pub unless_full : Here → Stanza → Option (List Effect) → List Effect
unless_full who st (Some effects) = effects
unless_full who st None = refused who st ResourceConstraint

abbrev pub between : Scene → (own user : List ℕ) → PresenceForm → Option (List Effect)
between o own user form = subscription (party o.domain o.world own) (party o.domain o.world user) form

abbrev pub subscribed : Scene → (own : List ℕ) → Here → Stanza → PresenceForm → Option (List ℕ) → List Effect
subscribed o own who st form None = []
subscribed o own who st form (Some user) = if has_user o.users user then unless_full who st (between o own user form) else []

-- RFC 6121, 4.3: the server alone probes
abbrev pub to_user : Scene → (own : List ℕ) → Here → Stanza → Address → PresenceForm → Element → Place → List Effect
to_user o own who st to Available e place = directed_to o own who st place (named o.world (to ∷ []))
to_user o own who st to Unavailable e place = directed_to o own who st place (named o.world (to ∷ []))
to_user o own who st to Error e place = error_to o.world who to e (live_for o.world place (Some to))
to_user o own who st to Probe e place = []
to_user o own who st to form e place = subscribed o own who st form (user_in own place)

-- XEP-0045, 7.2, 7.6 and 7.7: a session enters a room, or is shown there otherwise or under another nick
abbrev pub present_in : World KeptTraffic → Here → Stanza → Option Hosted → List Effect
present_in world who st None = enter None (numbers_for world.rooms who.session) who st []
present_in world who st (Some h) =
    if is_in who.session h then rename h.room who st
    else enter (Some h.room) (numbers_for world.rooms who.session) who st (past_in world.archives h)

-- XEP-0045, 7.14
abbrev pub absent_from : Here → Stanza → Option Hosted → List Effect
absent_from who st None = []
absent_from who st (Some h) = leave h.room who.session (Some st)

abbrev pub to_be_in : World KeptTraffic → Here → Stanza → PresenceForm → Option Hosted → List Effect
to_be_in world who st Available found = present_in world who st found
to_be_in world who st Unavailable found = absent_from who st found
to_be_in world who st form found = []

abbrev pub to_address : Scene → (own : List ℕ) → Here → Stanza → Address → PresenceForm → Element → Place → List Effect
to_address o own who st to form e Account = to_user o own who st to form e Account
to_address o own who st to form e (User user) = to_user o own who st to form e (User user)
to_address o own who st to form e (UserAt user resource) = to_user o own who st to form e (UserAt user resource)
to_address o own who st to form e (Room room) = to_be_in o.world who st form (room_for o.world.rooms (Some to))
to_address o own who st to form e (RoomAt room nick) = to_be_in o.world who st form (room_for o.world.rooms (Some to))
to_address o own who st to form e place = []

abbrev pub presence_to : Scene → (own : List ℕ) → Here → Stanza → Option Address → PresenceForm → Element → Place → List Effect
presence_to o own who st None form e place = broadcast o own who st form
presence_to o own who st (Some to) form e place = to_address o own who st to form e place

abbrev pub presence : Scene → (own : List ℕ) → Here → Stanza → Option Address → PresenceForm → Element → Place → List Effect
presence o own who st to form e place =
    if nat_lt most_of_presence (length_sent who to e) then refused who st NotAcceptable else presence_to o own who st to form e place

-- Every stanza. A faulty one is refused, wherever it goes.

abbrev pub effects_at : Scene → (own : List ℕ) → Here → Stanza → Place → List Effect
effects_at o own who (Message to form e) place = message o own who (Message to form e) form e place
effects_at o own who (Presence to form e) place = presence o own who (Presence to form e) to form e place
effects_at o own who (Iq to id form e) place = iq o own who (Iq to id form e) to e place
effects_at o own who (Faulty kind to id answered condition) place = refused who (Faulty kind to id answered condition) condition

-- RFC 6120, 7: the address of a session has a local part, which is its user's
abbrev pub effects_by : Option (List ℕ) → Scene → Here → Stanza → List Effect
effects_by None o who st = []
effects_by (Some own) o who st = effects_at o own who st (place_of own o.domain (to_in st))

abbrev pub effects_in : Scene → ℕ → Stanza → List Effect
effects_in o s st = effects_by (here o.world s).address.local o (here o.world s) st

-- the effects of a stanza of a session
abbrev pub effects : Kept → ℕ → Stanza → List Effect
effects k s st = effects_in (scene_of k) s st

-- Departure. RFC 6121, 4.5.2: those who see a session, or were sent its presence alone, are told by the server that it is gone, and then
-- those who are in a room with it (XEP-0045, 7.14)

abbrev pub departure_by : Option (List ℕ) → World KeptTraffic → Here → List Effect
departure_by None world who = []
departure_by (Some own) world who = unavailable who None (watchers world own who) (named world (directed_by world who))

abbrev pub departure : World KeptTraffic → ℕ → List Effect
departure world s = departure_by (here world s).address.local world (here world s) ++ leaves_rooms world.rooms s None
