-- What comes of a stanza keeps rosters to their limits. But for a change of a roster and a subscription, each row notes nothing of users.
use Rattle.std.proofs.Common.{◌≡◌, ℕ, ℤ, List, [], ◌∷◌, ◌++◌, map, nat_lt, codes, Option, Some, None, Bool, true, false, ◌||◌, refl, ap, ◌∙◌, if◌then◌else◌}
use Rattle.jid_core.specs.Addresses.{Address}
use Rattle.stanza_tree.specs.Spelling.{text}
use Rattle.stanza_tree.specs.declared.node.Element.{Element}
use Rattle.stanza_model.specs.Replies.{refused}
use Rattle.stanza_model.specs.Rosters.{roster_space}
use Rattle.stanza_model.specs.Stanzas.{to_in}
use Rattle.stanza_model.specs.declared.condition.Condition.{Condition}
use Rattle.stanza_model.specs.declared.condition.Condition.TheVariants.{BadRequest, NotAcceptable, NotAllowed}
use Rattle.stanza_model.specs.declared.condition.Condition.TheVariants.{RemoteServerNotFound, ResourceConstraint, ServiceUnavailable}
use Rattle.stanza_model.specs.declared.effect.Change.{Change}
use Rattle.stanza_model.specs.declared.effect.Change.TheVariants as change
use Rattle.stanza_model.specs.declared.effect.Effect.{Effect}
use Rattle.stanza_model.specs.declared.effect.Effect.TheVariants.{Queue, Set}
use Rattle.stanza_model.specs.declared.effect.Effect.TheVariants as effect
use Rattle.stanza_model.specs.declared.here.Here.{Here}
use Rattle.stanza_model.specs.declared.keeping.Keeping.{Keeping}
use Rattle.stanza_model.specs.declared.kinds.MessageForm.{MessageForm}
use Rattle.stanza_model.specs.declared.kinds.MessageForm.TheVariants as form
use Rattle.stanza_model.specs.declared.kinds.PresenceForm.{PresenceForm}
use Rattle.stanza_model.specs.declared.kinds.PresenceForm.TheVariants.{Available, Unavailable, Subscribe, Subscribed, Unsubscribe, Unsubscribed, Probe, Error}
use Rattle.stanza_model.specs.declared.shared.Shown.{Shown}
use Rattle.stanza_model.specs.declared.stanza.Stanza.{Stanza}
use Rattle.stanza_model.specs.declared.stanza.Stanza.TheVariants.{Message, Presence, Iq, Faulty}
use Rattle.stanza_router.specs.Messages.{addressed, deliveries, given, if_known, is_kept, is_to_oneself, is_too_much, plain_text, queued_as, route_of}
use Rattle.stanza_router.specs.Messages.{routed, row_of, row_text, rows_for, to_full, told_text}
use Rattle.stanza_router.specs.Messages as messages
use Rattle.stanza_router.specs.Places.{place_of}
use Rattle.stanza_router.specs.declared.places.Place.{Place}
use Rattle.stanza_router.specs.declared.places.Place.TheVariants.{Account, Server, User, UserAt, Service, Room, RoomAt, Foreign}
use Rattle.contact_table.specs.Books.{Book, bare_of, noted}
use Rattle.roster_book.specs.Requests.{roster_set}
use Rattle.roster_laws.specs.Keeping.{AreKept, noted_all}
use Rattle.roster_laws.proofs.EffectLemmas.{IsQuiet, quiet_both, quiet_either, quiet_if, quiet_map, quiet_refused}
use Rattle.roster_laws.proofs.KeepLemmas.{quiet_kept, removed_kept, set_kept, subscription_kept}
use Rattle.presence_core.specs.Broadcasts as broadcasts
use Rattle.presence_core.specs.Broadcasts.{announced, asked_by, leaves, others, seen_by, set_unavailable, shown_to}
use Rattle.presence_core.specs.Broadcasts.{told_others, told_watchers, welcome, with_priority}
use Rattle.presence_core.specs.Copies.{copies, copy_to, presence_text}
use Rattle.presence_core.specs.DirectedPresence.{directed, delivered, has_room, with_address, without_address}
use Rattle.presence_core.specs.Priorities.{priority_in}
use Rattle.muc_service.specs.Rooms.{Rooms}
use Rattle.mam_wire.specs.Answers.{mam_space}
use Rattle.house_model.specs.ArchiveLookups.{keeping_for}
use Rattle.house_model.specs.Archives.{archived_of}
use Rattle.house_model.specs.Effects.{apply, apply_all}
use Rattle.house_model.specs.Lookups.{has_user, here, sessions_of}
use Rattle.house_model.specs.Presences.{asking, directed_by, length_sent, most_of_presence, named, party, shown, watchers}
use Rattle.house_model.specs.Requests.{pings, begins_session, binds_resource, discovers, gets, queries, sets}
use Rattle.house_model.specs.Routing.{Scene, between, broadcast, departure, departure_by, directed_if, effects_at, effects_by, effects_in}
use Rattle.house_model.specs.Routing.{error_to, has_account, iq, live_for, message, own_contacts, parted, presence, presence_to, receivers}
use Rattle.house_model.specs.RoomLookups.{room_for}
use Rattle.house_model.specs.Routing.{leaves_rooms, roster_changed, subscribed, to_account, to_address, to_be_in, to_room, to_server}
use Rattle.house_model.specs.Routing.{to_service, to_session, to_user, to_users, unless_full, user_in, user_removed}
use Rattle.house_model.specs.States.{World}
use Rattle.house_model.specs.Steps.{effect_of, set}
use Rattle.house_model.specs.Traffic.{KeptTraffic, brief}
use Rattle.house_model.proofs.RoomsQuiet.{archive_quiet, in_room_quiet, room_quiet, rooms_left_quiet, to_all_quiet, to_one_quiet}

-- Messages.

-- the copies are queued, or the stanza is refused or dropped
module _ (who : Here) (st : Stanza) (es : List Effect) (quiet : IsQuiet es) where
  user_quiet : (known : Bool) (form : MessageForm) → IsQuiet (routed who st es (if_known known (messages.to_user form)))
  user_quiet false form = quiet_refused who st ServiceUnavailable
  user_quiet true form.Chat = quiet
  user_quiet true form.Normal = quiet
  user_quiet true form.Headline = quiet
  user_quiet true form.Groupchat = quiet_refused who st ServiceUnavailable
  user_quiet true form.Error = λ k. refl

  full_quiet : (known : Bool) (form : MessageForm) (hs : List Here) → IsQuiet (routed who st es (if_known known (to_full form hs)))
  full_quiet false form hs = quiet_refused who st ServiceUnavailable
  full_quiet true form (h ∷ more) = quiet
  full_quiet true form.Chat [] = quiet
  full_quiet true form.Normal [] = quiet_refused who st ServiceUnavailable
  full_quiet true form.Headline [] = quiet_refused who st ServiceUnavailable
  full_quiet true form.Groupchat [] = quiet_refused who st ServiceUnavailable
  full_quiet true form.Error [] = λ k. refl

  routed_quiet : (place : Place) (known : Bool) (form : MessageForm) (hs : List Here) → IsQuiet (routed who st es (route_of place known form hs))
  routed_quiet Foreign known form hs = quiet_refused who st RemoteServerNotFound
  routed_quiet Server known form hs = quiet_refused who st ServiceUnavailable
  routed_quiet Service known form hs = quiet_refused who st ServiceUnavailable
  routed_quiet Account known form hs = user_quiet known form
  routed_quiet (User user) known form hs = user_quiet known form
  routed_quiet (UserAt user resource) known form hs = full_quiet known form hs
  routed_quiet (Room room) known form hs = λ k. refl
  routed_quiet (RoomAt room nick) known form hs = λ k. refl

row_quiet : (user : Option (List ℕ)) (peer : Address) (text : List ℕ) (moment : ℕ) → IsQuiet (row_of user peer text moment)
row_quiet None peer text moment = λ k. refl
row_quiet (Some user) peer text moment = λ k. refl

given_quiet : (who : Here) (st : Stanza) (to : Option Address) (form : MessageForm) (e : Element) (keeping : Keeping) (sessions : List ℕ)
    → IsQuiet (given who st to form e keeping sessions)
given_quiet who st to form e keeping sessions =
    quiet_either (is_kept form e) _ _
    (quiet_either (is_too_much who to e keeping) _ _ (quiet_refused who st ResourceConstraint)
    (quiet_both (map (queued_as who to (told_text who to e keeping.row)) sessions) (rows_for who to (row_text who to e) keeping.moment)
    (quiet_map (queued_as who to (told_text who to e keeping.row)) (λ s k. refl) sessions)
    (quiet_both (row_of who.address.local (addressed who to) (row_text who to e) keeping.moment) _
    (row_quiet who.address.local (addressed who to) (row_text who to e) keeping.moment)
    (quiet_either (is_to_oneself who to) [] _ (λ k. refl) (row_quiet (addressed who to).local who.address (row_text who to e) keeping.moment)))))
    (quiet_map (queued_as who to (plain_text who to e)) (λ s k. refl) sessions)

deliveries_quiet : (who : Here) (st : Stanza) (place : Place) (known : Bool) (hs : List Here) (keeping : Keeping)
    → IsQuiet (deliveries who st place known hs keeping)
deliveries_quiet who (Message to form e) place known hs keeping =
    let sessions : List ℕ = map (λ (h : Here). h.session) hs in
    routed_quiet who (Message to form e) (given who (Message to form e) to form e keeping sessions)
    (given_quiet who (Message to form e) to form e keeping sessions) place known form hs
deliveries_quiet who (Presence to form e) place known hs keeping = λ k. refl
deliveries_quiet who (Iq to id form e) place known hs keeping = λ k. refl
deliveries_quiet who (Faulty kind to id answered condition) place known hs keeping = λ k. refl

-- Requests.

server_quiet : (who : Here) (st : Stanza) (place : Place) → IsQuiet (to_server who st place)
server_quiet who st place =
    quiet_either (begins_session st || pings st) _ _ (λ k. refl)
    (quiet_either (discovers st) _ _ (λ k. refl)
    (quiet_either (binds_resource st) _ _ (quiet_refused who st NotAllowed) (quiet_refused who st ServiceUnavailable)))

service_quiet : (rooms : Rooms) (who : Here) (st : Stanza) (place : Place) → IsQuiet (to_service rooms who st place)
service_quiet rooms who st place =
    quiet_either (discovers st) _ _ (λ k. refl)
    (quiet_either (pings st) _ _ (λ k. refl) (quiet_refused who st ServiceUnavailable))

session_quiet : (world : World KeptTraffic) (who : Here) (st : Stanza) (to : Option Address) (e : Element) (live : Option ℕ)
    → IsQuiet (to_session world who st to e live)
session_quiet world who st to e (Some r) = λ k. refl
session_quiet world who st to e None = quiet_refused who st ServiceUnavailable

-- Presence.

copies_quiet : (rest : List ℕ) (hs : List Here) → IsQuiet (copies rest hs)
copies_quiet rest hs = quiet_map (copy_to rest) (λ h k. refl) hs

leaves_quiet : (departing : Option ℕ) (who : Here) (rest : List ℕ) (ws ds : List Here) → IsQuiet (leaves departing who rest ws ds)
leaves_quiet departing who rest ws ds =
    let first : List Effect = told_watchers departing who rest ws in
    let second : List Effect = told_others departing who rest ws ds in
    quiet_both (first ++ second) (Set (change.Directed who.session []) ∷ [])
    (quiet_both first second
    (quiet_both (copies rest (others departing [] (seen_by who ws))) (set_unavailable who)
    (copies_quiet rest (others departing [] (seen_by who ws)))
    (quiet_if who.available (Set (change.Unavailable who.session) ∷ []) (λ k. refl)))
    (copies_quiet rest (others departing (seen_by who ws) ds)))
    (λ k. refl)

welcome_quiet : (who : Here) (shown : List Shown) (asking : List Address) → IsQuiet (welcome who shown asking)
welcome_quiet who shown asking =
    quiet_either who.available [] _ (λ k. refl)
    (quiet_both (map (shown_to who) shown) (map (asked_by who) asking)
    (quiet_map (shown_to who) (λ x k. refl) shown) (quiet_map (asked_by who) (λ x k. refl) asking))

announced_quiet : (who : Here) (st : Stanza) (e : Element) (ws : List Here) (shown : List Shown) (asking : List Address) (p : Option ℤ)
    → IsQuiet (with_priority who st p (λ priority. announced priority who e ws ++ welcome who shown asking))
announced_quiet who st e ws shown asking None = quiet_refused who st BadRequest
announced_quiet who st e ws shown asking (Some p) =
    quiet_both (copies (presence_text who e) ws) (welcome who shown asking) (copies_quiet (presence_text who e) ws) (welcome_quiet who shown asking)

delivered_quiet : (who : Here) (e : Element) (hs : List Here) (list : List Address) → IsQuiet (delivered who e hs list)
delivered_quiet who e hs list =
    quiet_both (copies (presence_text who e) hs) (Set (change.Directed who.session list) ∷ []) (copies_quiet (presence_text who e) hs) (λ k. refl)

broadcast_quiet : (o : Scene) (own : List ℕ) (who : Here) (form : PresenceForm) (e : Element)
    → IsQuiet (broadcast o own who (Presence None form e) form)
broadcast_quiet o own who Available e =
    announced_quiet who (Presence None Available e) e (watchers o.world own who) (shown o.world own who) (asking o.domain o.world own) (priority_in e)
broadcast_quiet o own who Unavailable e =
    quiet_both (leaves None who (presence_text who e) (watchers o.world own who) (named o.world (directed_by o.world who)))
    (leaves_rooms o.world.rooms who.session (Some (Presence None Unavailable e)))
    (leaves_quiet None who (presence_text who e) (watchers o.world own who) (named o.world (directed_by o.world who)))
    (rooms_left_quiet o.world.rooms who.session (Some (Presence None Unavailable e)))
broadcast_quiet o own who Subscribe e = quiet_refused who (Presence None Subscribe e) BadRequest
broadcast_quiet o own who Subscribed e = quiet_refused who (Presence None Subscribed e) BadRequest
broadcast_quiet o own who Unsubscribe e = quiet_refused who (Presence None Unsubscribe e) BadRequest
broadcast_quiet o own who Unsubscribed e = quiet_refused who (Presence None Unsubscribed e) BadRequest
broadcast_quiet o own who Probe e = quiet_refused who (Presence None Probe e) BadRequest
broadcast_quiet o own who Error e = quiet_refused who (Presence None Error e) BadRequest

available_quiet : (who : Here) (to : Address) (e : Element) (hs : List Here) (list : List Address)
    → IsQuiet (directed who (Presence (Some to) Available e) hs list)
available_quiet who to e hs list =
    quiet_either (has_room to list) _ _ (delivered_quiet who e hs (with_address to list))
    (quiet_refused who (Presence (Some to) Available e) ResourceConstraint)

directed_quiet : (known : Bool) (world : World KeptTraffic) (who : Here) (st : Stanza) (hs : List Here)
    → IsQuiet (directed who st hs (directed_by world who)) → IsQuiet (directed_if known world who st hs)
directed_quiet true world who st hs quiet = quiet
directed_quiet false world who st hs quiet = λ k. refl

error_quiet : (world : World KeptTraffic) (who : Here) (to : Address) (e : Element) (live : Option ℕ) → IsQuiet (error_to world who to e live)
error_quiet world who to e (Some r) = λ k. refl
error_quiet world who to e None = λ k. refl

-- All rows.

module _ (o : Scene) (own : List ℕ) (who : Here) where
  -- what keeps the rosters as they are
  abbrev Keeps : List Effect → Type 0
  Keeps es = AreKept o.domain o.world.book → AreKept o.domain (noted_all es o.world.book)

  quiet : (es : List Effect) → IsQuiet es → Keeps es
  quiet es is = quiet_kept o.domain es is o.world.book

  either : (b : Bool) (xs ys : List Effect) → Keeps xs → Keeps ys → Keeps (if b then xs else ys)
  either true xs ys one other = one
  either false xs ys one other = other

  refused_kept : (st : Stanza) (condition : Condition) → Keeps (refused who st condition)
  refused_kept st condition = quiet (refused who st condition) (quiet_refused who st condition)

  message_kept : (st : Stanza) (form : MessageForm) (e : Element) (place : Place) → Keeps (message o own who st form e place)
  message_kept st form e place = quiet (message o own who st form e place) (by place)
    where
      found : (place : Place) → IsQuiet (to_users o who st form place (user_in own place))
      found place =
          let hs = receivers o.world form place (user_in own place) (live_for o.world place (to_in st)) in
          deliveries_quiet who st place (has_account o.users (user_in own place) hs) hs (keeping_for o.world.archives who (to_in st) o.moment)

      by : (place : Place) → IsQuiet (message o own who st form e place)
      by (Room room) = to_all_quiet o who st form e (room_for o.world.rooms (to_in st))
      by (RoomAt room nick) = to_one_quiet who st (room_for o.world.rooms (to_in st))
      by Account = found Account
      by Server = found Server
      by (User user) = found (User user)
      by (UserAt user resource) = found (UserAt user resource)
      by Service = found Service
      by Foreign = found Foreign

  -- RFC 6121, 2.3 to 2.5
  changed_kept : (st : Stanza) → Keeps (roster_changed o own who st)
  changed_kept st = by (user_removed o own st)
    where
      by : (user : Option (List ℕ))
          → Keeps (parted o own user ++ roster_set (bare_of o.domain own) (own_contacts o own) who (sessions_of o.world own) st)
      by None = set_kept o.domain own o.world.book who (sessions_of o.world own) st
      by (Some user) =
          removed_kept o.domain own (party o.domain o.world own) (party o.domain o.world user) o.world.book who (sessions_of o.world own) st

  account_kept : (st : Stanza) → Keeps (to_account o own who st)
  account_kept st =
      either (gets roster_space (codes "query") st) _ _ (λ are. are)
      (either (sets roster_space (codes "query") st) _ _ (changed_kept st)
      (either (queries mam_space st) _ _
      (quiet (archived_of o.world.archives own who st) (archive_quiet true who st None (o.world.archives.users own).kept))
      (quiet (to_server who st Account) (server_quiet who st Account))))

  iq_kept : (st : Stanza) (to : Option Address) (e : Element) (place : Place) → Keeps (iq o own who st to e place)
  iq_kept st to e Account = account_kept st
  iq_kept st to e Server = quiet (to_server who st Server) (server_quiet who st Server)
  iq_kept st to e (User user) = refused_kept st ServiceUnavailable
  iq_kept st to e (UserAt user resource) =
      let live = live_for o.world (UserAt user resource) to in quiet (to_session o.world who st to e live) (session_quiet o.world who st to e live)
  iq_kept st to e Service = quiet (to_service o.world.rooms who st Service) (service_quiet o.world.rooms who st Service)
  iq_kept st to e (Room room) =
      let found = room_for o.world.rooms to in
      quiet (to_room o.world who st (Room room) found) (room_quiet o.world who st (Room room) found)
  iq_kept st to e (RoomAt room nick) = refused_kept st ServiceUnavailable
  iq_kept st to e Foreign = refused_kept st RemoteServerNotFound

  -- RFC 6121, 3
  subscribed_kept : (st : Stanza) (form : PresenceForm) (user : Option (List ℕ)) → Keeps (subscribed o own who st form user)
  subscribed_kept st form None = λ are. are
  subscribed_kept st form (Some user) = either (has_user o.users user) _ [] (by (between o own user form) refl) (λ are. are)
    where
      by : (found : Option (List Effect)) → between o own user form ≡ found → Keeps (unless_full who st found)
      by None is = refused_kept st ResourceConstraint
      by (Some es) is =
          subscription_kept o.domain own (party o.domain o.world own) (party o.domain o.world user) o.world.book form es refl refl is

  user_kept : (to : Address) (form : PresenceForm) (e : Element) (place : Place)
      → Keeps (to_user o own who (Presence (Some to) form e) to form e place)
  user_kept to Available e place =
      let st = Presence (Some to) Available e in
      let hs = named o.world (to ∷ []) in
      let known = has_account o.users (user_in own place) hs in
      quiet (directed_if known o.world who st hs) (directed_quiet known o.world who st hs (available_quiet who to e hs (directed_by o.world who)))
  user_kept to Unavailable e place =
      let st = Presence (Some to) Unavailable e in
      let hs = named o.world (to ∷ []) in
      let known = has_account o.users (user_in own place) hs in
      quiet (directed_if known o.world who st hs)
      (directed_quiet known o.world who st hs (delivered_quiet who e hs (without_address to (directed_by o.world who))))
  user_kept to Error e place =
      let live = live_for o.world place (Some to) in quiet (error_to o.world who to e live) (error_quiet o.world who to e live)
  user_kept to Probe e place = λ are. are
  user_kept to Subscribe e place = subscribed_kept (Presence (Some to) Subscribe e) Subscribe (user_in own place)
  user_kept to Subscribed e place = subscribed_kept (Presence (Some to) Subscribed e) Subscribed (user_in own place)
  user_kept to Unsubscribe e place = subscribed_kept (Presence (Some to) Unsubscribe e) Unsubscribe (user_in own place)
  user_kept to Unsubscribed e place = subscribed_kept (Presence (Some to) Unsubscribed e) Unsubscribed (user_in own place)

  address_kept : (to : Address) (form : PresenceForm) (e : Element) (place : Place)
      → Keeps (to_address o own who (Presence (Some to) form e) to form e place)
  address_kept to form e Account = user_kept to form e Account
  address_kept to form e (User user) = user_kept to form e (User user)
  address_kept to form e (UserAt user resource) = user_kept to form e (UserAt user resource)
  address_kept to form e (Room room) =
      let st = Presence (Some to) form e in
      let found = room_for o.world.rooms (Some to) in
      quiet (to_be_in o.world who st form found) (in_room_quiet o.world who st form found)
  address_kept to form e (RoomAt room nick) =
      let st = Presence (Some to) form e in
      let found = room_for o.world.rooms (Some to) in
      quiet (to_be_in o.world who st form found) (in_room_quiet o.world who st form found)
  address_kept to form e Server = λ are. are
  address_kept to form e Service = λ are. are
  address_kept to form e Foreign = λ are. are

  presence_kept : (to : Option Address) (form : PresenceForm) (e : Element) (place : Place)
      → Keeps (presence o own who (Presence to form e) to form e place)
  presence_kept to form e place =
      either (nat_lt most_of_presence (length_sent who to e)) _ _ (refused_kept (Presence to form e) NotAcceptable) (by to)
    where
      by : (to : Option Address) → Keeps (presence_to o own who (Presence to form e) to form e place)
      by None = quiet (broadcast o own who (Presence None form e) form) (broadcast_quiet o own who form e)
      by (Some to) = address_kept to form e place

  at_kept : (st : Stanza) (place : Place) → Keeps (effects_at o own who st place)
  at_kept (Message to form e) place = message_kept (Message to form e) form e place
  at_kept (Presence to form e) place = presence_kept to form e place
  at_kept (Iq to id form e) place = iq_kept (Iq to id form e) to e place
  at_kept (Faulty kind to id answered condition) place = refused_kept (Faulty kind to id answered condition) condition

pub stanza_kept : (o : Scene) (s : ℕ) (st : Stanza) → AreKept o.domain o.world.book
    → AreKept o.domain (noted_all (effects_in o s st) o.world.book)
stanza_kept o s st = by (here o.world s).address.local
  where
    by : (user : Option (List ℕ)) → AreKept o.domain o.world.book
        → AreKept o.domain (noted_all (effects_by user o (here o.world s) st) o.world.book)
    by None are = are
    by (Some own) are = at_kept o own (here o.world s) st (place_of own o.domain (to_in st)) are

-- Departure.
pub departure_quiet : (world : World KeptTraffic) (s : ℕ) (k : Book) → noted_all (departure world s) k ≡ k
departure_quiet world s =
    quiet_both (departure_by (here world s).address.local world (here world s)) (leaves_rooms world.rooms s None) (by (here world s).address.local)
    (rooms_left_quiet world.rooms s None)
  where
    by : (own : Option (List ℕ)) → IsQuiet (departure_by own world (here world s))
    by None k = refl
    by (Some own) k =
        leaves_quiet (Some s) (here world s) (text (broadcasts.departure (here world s))) (watchers world own (here world s))
        (named world (directed_by world (here world s))) k

-- What is set of users is noted in the book, and nothing else.
set_book : (world : World KeptTraffic) (c : Change) → (apply brief world (set c)).book ≡ noted c world.book
set_book world (change.WantsRoster s) = refl
set_book world (change.Pushed s pushes) = refl
set_book world (change.Contact user address name groups) = refl
set_book world (change.NoContact user address) = refl
set_book world (change.Sees a b is) = refl
set_book world (change.Asked a b is) = refl
set_book world (change.Available s stanza priority) = refl
set_book world (change.Unavailable s) = refl
set_book world (change.Directed s addresses) = refl
set_book world (change.RoomMade n address owner) = refl
set_book world (change.RoomGone n) = refl
set_book world (change.Unlocked n) = refl
set_book world (change.Configured n config) = refl
set_book world (change.Affiliated n address a) = refl
set_book world (change.RoleSet n s role) = refl
set_book world (change.Renamed n s nick) = refl
set_book world (change.OccupantShown n s presence) = refl
set_book world (change.Subject n text stamp) = refl
set_book world (change.RoomRow n peer text moment) = refl

pub noted_book : (world : World KeptTraffic) (es : List Effect) → (apply_all brief world (map effect_of es)).book ≡ noted_all es world.book
noted_book world [] = refl
noted_book world (Queue s to rest origin ∷ es) = noted_book (apply brief world (effect_of (Queue s to rest origin))) es
noted_book world (effect.Broadcast n item ∷ es) = noted_book (apply brief world (effect_of (effect.Broadcast n item))) es
noted_book world (effect.Enter n s address nick role ∷ es) = noted_book (apply brief world (effect_of (effect.Enter n s address nick role))) es
noted_book world (effect.Leave n s ∷ es) = noted_book (apply brief world (effect_of (effect.Leave n s))) es
noted_book world (effect.Keep user peer text moment ∷ es) = noted_book (apply brief world (effect_of (effect.Keep user peer text moment))) es
noted_book world (Set c ∷ es) = noted_book (apply brief world (set c)) es ∙ ap (noted_all es) (set_book world c)
