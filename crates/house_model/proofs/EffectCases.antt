-- Each effect of a stanza is something that the server says to its sender, or a copy of the stanza for a session that is found.
use Rattle.std.proofs.Common.{◌≡◌, ℕ, List, [], ◌∷◌, map, Option, Some, None, Bool, true, false, ◌||◌, codes, refl, sym, ap, ◌∙◌, Result, Ok, Err}
use Rattle.std.proofs.Common.{if◌then◌else◌}
use Rattle.std.specs.List.{AllByRecursion}
use Rattle.jid_core.specs.Addresses.{Address}
use Rattle.stanza_tree.specs.Attributes.{attr_of}
use Rattle.stanza_tree.specs.declared.node.Element.{Element}
use Rattle.stanza_model.specs.Replies.{refused}
use Rattle.stanza_model.specs.Rosters.{roster_space}
use Rattle.stanza_model.specs.Stanzas.{to_in, element_in}
use Rattle.stanza_model.specs.declared.condition.Condition.{Condition}
use Rattle.stanza_model.specs.declared.condition.Condition.TheVariants.{BadRequest, FeatureNotImplemented, Forbidden, ItemNotFound, NotAllowed}
use Rattle.stanza_model.specs.declared.condition.Condition.TheVariants.{RemoteServerNotFound, ResourceConstraint, ServiceUnavailable}
use Rattle.stanza_model.specs.declared.effect.Effect.{Effect}
use Rattle.stanza_model.specs.declared.here.Here.{Here}
use Rattle.stanza_model.specs.declared.kinds.MessageForm.{MessageForm}
use Rattle.stanza_model.specs.declared.kinds.MessageForm.TheVariants.{Chat, Normal, Headline, Groupchat, Error}
use Rattle.stanza_model.specs.declared.stanza.Stanza.{Stanza}
use Rattle.stanza_model.specs.declared.stanza.Stanza.TheVariants.{Message, Presence, Iq, Faulty}
use Rattle.stanza_router.specs.Messages.{addressed, copied, deliveries, given, if_known, is_kept, is_to_oneself, is_too_much, plain_text}
use Rattle.stanza_router.specs.Messages.{queued_as, route_of, routed, row_of, row_text, rows_for, to_full, to_user, told_text}
use Rattle.stanza_router.specs.Places.{place_of}
use Rattle.stanza_router.specs.declared.places.Place.{Place}
use Rattle.stanza_router.specs.declared.places.Place.TheVariants.{Account, Server, User, UserAt, Service, Room, RoomAt, Foreign}
use Rattle.muc_service.specs.Rooms.{Hosted}
use Rattle.rsm_paging.specs.Pages.{asked_id, is_known}
use Rattle.rsm_paging.specs.declared.ask.Filter.{Filter}
use Rattle.rsm_paging.specs.declared.ask.PageAsk.{PageAsk}
use Rattle.rsm_paging.specs.declared.ask.Row.{Row}
use Rattle.archive_table.specs.Pages.{shown}
use Rattle.mam_wire.specs.Answers.{mam_space}
use Rattle.mam_wire.specs.Asks.{ask_of}
use Rattle.mam_wire.specs.Filters.{filter_of}
use Rattle.mam_wire.specs.Queries.{form_in, is_long, joined, query_of, queryid_of, set_in}
use Rattle.mam_wire.specs.declared.query.Query.{Query}
use Rattle.mam_wire.specs.declared.fault.QueryFault.{QueryFault}
use Rattle.mam_wire.specs.declared.fault.QueryFault.TheVariants as fault
use Rattle.house_model.specs.Lookups.{here}
use Rattle.house_model.specs.ArchiveLookups.{rows_in}
use Rattle.house_model.specs.Archives.{archived, asked, may_read, paged, queried, query_in, shown_to}
use Rattle.house_model.specs.Requests.{pings, begins_session, binds_resource, discovers, asks_a_room, gets, queries, sets}
use Rattle.house_model.specs.Routing.{Scene, live_for, user_in, receivers, has_account, to_account, to_users, message}
use Rattle.house_model.specs.Routing.{to_server, to_session, to_service, to_room, asked_of, discovered, done, iq, effects_at, effects_by, effects_in}
use Rattle.house_model.specs.RoomLookups.{listed, room_for}
use Rattle.house_model.proofs.Founds.{AreFound, IsFound, append_all, either_all, live_for_found, receivers_found}
use Rattle.house_model.proofs.PresenceCases.{Covers, IsAsked, keeping_of, presence_all, refusal_all}
use Rattle.house_model.proofs.StayLemmas.{choose}

-- what holds of the image of each
mapped_all : {X Y : Type 0} (P : Y → Type 0) (f : X → Y) (xs : List X) → AllByRecursion (λ x. P (f x)) xs → AllByRecursion P (map f xs)
mapped_all P f [] all = tt
mapped_all P f (x ∷ xs) all = (all.0, mapped_all P f xs all.1)

-- the id of a query that can be read is short

abbrev is_long_in : Result (Option (List ℕ)) QueryFault → Bool
is_long_in (Ok id) = is_long id
is_long_in (Err c) = false

id_by : (id r : Option (List ℕ)) → queryid_of id ≡ Ok r → is_long r ≡ false
id_by id r is = sym (ap is_long_in is) ∙ by (is_long id) refl where
  by : (b : Bool) → is_long id ≡ b → is_long_in (if b then Err fault.BadRequest else Ok id) ≡ false
  by true e = refl
  by false e = e

abbrev id_in : Result Query QueryFault → Result (Option (List ℕ)) QueryFault
id_in (Ok q) = Ok q.queryid
id_in (Err c) = Err c

joined_id : (f : Result Filter QueryFault) (r : Result (Option (List ℕ)) QueryFault) (a : Result PageAsk QueryFault) (q : Query)
    → joined f r a ≡ Ok q → r ≡ Ok q.queryid
joined_id (Err c) r a q is = absurd (let z : Err c ≡ Ok q = is in cc)
joined_id (Ok f) (Err c) a q is = absurd (let z : Err c ≡ Ok q = is in cc)
joined_id (Ok f) (Ok id) (Err c) q is = absurd (let z : Err c ≡ Ok q = is in cc)
joined_id (Ok f) (Ok id) (Ok a) q is = ap id_in is

short_id : (query : Element) (q : Query) → query_of query ≡ Ok q → is_long q.queryid ≡ false
short_id query q is =
    id_by (attr_of (codes "queryid") query.attrs) q.queryid
    (joined_id (filter_of (form_in query)) (queryid_of (attr_of (codes "queryid") query.attrs)) (ask_of (set_in query)) q is)

-- What the server says, and what it copies.
module _ (o : Scene) (s : ℕ) (st : Stanza) (P : Effect → Type 0) (Q : List Effect → Type 0) (all : Covers o s st P Q) where
  abbrev who : Here
  who = here o.world s

  refused_all : (c : Condition) → AllByRecursion P (refused who st c)
  refused_all c = refusal_all o s st P Q all c

  copies_all : (e : Element) → element_in st ≡ Some e → (hs : List Here) → AreFound o.world hs
      → AllByRecursion P (map (copied who (to_in st) e) hs)
  copies_all e is [] found = tt
  copies_all e is (h ∷ hs) found = (all.copy e h is found.0.found, copies_all e is hs found.1)

  -- the copies are queued, or the stanza is refused or dropped
  user_all : (copies : List Effect) (known : Bool) (form : MessageForm) → AllByRecursion P copies
      → AllByRecursion P (routed who st copies (if_known known (to_user form)))
  user_all copies false form is = refused_all ServiceUnavailable
  user_all copies true Chat is = is
  user_all copies true Normal is = is
  user_all copies true Headline is = is
  user_all copies true Groupchat is = refused_all ServiceUnavailable
  user_all copies true Error is = tt

  full_all : (copies : List Effect) (known : Bool) (form : MessageForm) (hs : List Here) → AllByRecursion P copies
      → AllByRecursion P (routed who st copies (if_known known (to_full form hs)))
  full_all copies false form hs is = refused_all ServiceUnavailable
  full_all copies true form (h ∷ more) is = is
  full_all copies true Chat [] is = is
  full_all copies true Normal [] is = refused_all ServiceUnavailable
  full_all copies true Headline [] is = refused_all ServiceUnavailable
  full_all copies true Groupchat [] is = refused_all ServiceUnavailable
  full_all copies true Error [] is = tt

  routed_all : (copies : List Effect) (place : Place) (known : Bool) (form : MessageForm) (hs : List Here)
      → AllByRecursion P copies → AllByRecursion P (routed who st copies (route_of place known form hs))
  routed_all copies Foreign known form hs is = refused_all RemoteServerNotFound
  routed_all copies Server known form hs is = refused_all ServiceUnavailable
  routed_all copies Service known form hs is = refused_all ServiceUnavailable
  routed_all copies Account known form hs is = user_all copies known form is
  routed_all copies (User user) known form hs is = user_all copies known form is
  routed_all copies (UserAt user resource) known form hs is = full_all copies known form hs is
  routed_all copies (Room room) known form hs is = tt
  routed_all copies (RoomAt room nick) known form hs is = tt

  server_all : (place : Place) → AllByRecursion P (to_server who st place)
  server_all place =
      either_all P (begins_session st || pings st) _ _ (all.result, tt)
      (either_all P (discovers st) _ _ (all.found place, tt)
      (either_all P (binds_resource st) _ _ (refused_all NotAllowed) (refused_all ServiceUnavailable)))

  service_all : (place : Place) → AllByRecursion P (to_service o.world.rooms who st place)
  service_all place =
      either_all P (discovers st) _ _ (all.told place, tt)
      (either_all P (pings st) _ _ (all.result, tt) (refused_all ServiceUnavailable))

  asked_all : (found : Option Hosted) → room_for o.world.rooms (to_in st) ≡ found → Q (asked_of who st found)
  asked_all None is = all.all _ (either_all P (asks_a_room st) _ _ (refused_all ItemNotFound) (refused_all ServiceUnavailable))
  asked_all (Some h) is = all.asks h is

  -- XEP-0313: the form of a query or a page, or a refusal

  paged_all : (from : Option Address) (rows : List Row) → IsAsked o st from rows → (query : Result Query QueryFault)
      → ((q : Query) → query ≡ Ok q → is_long q.queryid ≡ false) → AllByRecursion P (paged who st from rows query)
  paged_all from rows asked (Ok q) short =
      either_all P (is_known rows (asked_id q.ask.after q.ask.before)) _ _
      (append_all P (map (shown_to who from q.queryid) (shown rows q.filter q.ask)) _
      (mapped_all P (shown_to who from q.queryid) (shown rows q.filter q.ask) (all.shown from rows q asked (short q refl)))
      (all.page from rows q asked, tt)) (refused_all ItemNotFound)
  paged_all from rows asked (Err fault.NotImplemented) short = refused_all FeatureNotImplemented
  paged_all from rows asked (Err fault.BadRequest) short = refused_all BadRequest
  paged_all from rows asked (Err fault.NoMemory) short = refused_all BadRequest

  queried_all : (from : Option Address) (rows : List Row) → IsAsked o st from rows → (query : Option Element)
      → AllByRecursion P (queried who st from rows query)
  queried_all from rows asked None = refused_all BadRequest
  queried_all from rows asked (Some query) = paged_all from rows asked (query_of query) (λ q is. short_id query q is)

  answered_all : (may : Bool) (from : Option Address) (rows : List Row) → IsAsked o st from rows → AllByRecursion P (asked may who st from rows)
  answered_all may from rows is =
      either_all P (gets mam_space (codes "query") st) _ _ (all.form, tt)
      (either_all P may _ _ (queried_all from rows is (query_in st)) (refused_all Forbidden))

  archived_all : (found : Option Hosted) → room_for o.world.rooms (to_in st) ≡ found → AllByRecursion P (archived o.world.archives who st found)
  archived_all None at = refused_all ItemNotFound
  archived_all (Some h) at = answered_all (may_read h who) (Some h.room.address) (rows_in o.world.archives h).kept (h, at, refl, refl)

  room_all : (place : Place) → Q (to_room o.world who st place (room_for o.world.rooms (to_in st)))
  room_all place =
      choose Q (discovers st) (discovered (listed o.world.rooms) who st place)
      (if pings st then done who st
      else if queries mam_space st then archived o.world.archives who st (room_for o.world.rooms (to_in st))
      else asked_of who st (room_for o.world.rooms (to_in st)))
      (λ (_ : _). all.all (discovered (listed o.world.rooms) who st place) (all.told place, tt))
      (λ (_ : _). choose Q (pings st) (done who st)
      (if queries mam_space st then archived o.world.archives who st (room_for o.world.rooms (to_in st))
      else asked_of who st (room_for o.world.rooms (to_in st)))
      (λ (_ : _). all.all (done who st) (all.result, tt))
      (λ (_ : _). choose Q (queries mam_space st) (archived o.world.archives who st (room_for o.world.rooms (to_in st)))
      (asked_of who st (room_for o.world.rooms (to_in st)))
      (λ (_ : _). all.all _ (archived_all (room_for o.world.rooms (to_in st)) refl)) (λ (_ : _). asked_all (room_for o.world.rooms (to_in st)) refl)))

  session_all : (e : Element) → element_in st ≡ Some e → (live : Option ℕ) → ((r : ℕ) → live ≡ Some r → IsFound o.world r)
      → AllByRecursion P (to_session o.world who st (to_in st) e live)
  session_all e is (Some r) found = (all.copy e (here o.world r) is (found r refl), tt)
  session_all e is None found = refused_all ServiceUnavailable

  account_all : (own : List ℕ) → (here o.world s).address.local ≡ Some own → AllByRecursion P (to_account o own who st)
  account_all own mine =
      either_all P (gets roster_space (codes "query") st) _ _ (all.lists own)
      (either_all P (sets roster_space (codes "query") st) _ _ (all.changes own mine)
      (either_all P (queries mam_space st) _ _ (answered_all true None (o.world.archives.users own).kept (own, refl)) (server_all Account)))

  iq_all : (own : List ℕ) → (here o.world s).address.local ≡ Some own → (e : Element) → element_in st ≡ Some e → (place : Place)
      → Q (iq o own who st (to_in st) e place)
  iq_all own mine e is Account = all.all _ (account_all own mine)
  iq_all own mine e is Server = all.all _ (server_all Server)
  iq_all own mine e is (User user) = all.all _ (refused_all ServiceUnavailable)
  iq_all own mine e is (UserAt user resource) =
      all.all _ (session_all e is (live_for o.world (UserAt user resource) (to_in st))
      (λ r live. live_for_found o.world (UserAt user resource) (to_in st) r live))
  iq_all own mine e is Service = all.all _ (service_all Service)
  iq_all own mine e is (Room room) = room_all (Room room)
  iq_all own mine e is (RoomAt room nick) = all.all _ (refused_all ServiceUnavailable)
  iq_all own mine e is Foreign = all.all _ (refused_all RemoteServerNotFound)

-- a message between users: its copies, with the rows that are kept of it, or that there is no room for them
module _ (o : Scene) (s : ℕ) (to : Option Address) (form : MessageForm) (e : Element) (P : Effect → Type 0) (Q : List Effect → Type 0)
    (all : Covers o s (Message to form e) P Q) where
  abbrev it : Stanza
  it = Message to form e

  abbrev sender : Here
  sender = here o.world s

  plain_all : (hs : List Here) → AreFound o.world hs
      → AllByRecursion P (map (queued_as sender to (plain_text sender to e)) (map (λ (h : Here). h.session) hs))
  plain_all [] found = tt
  plain_all (h ∷ hs) found = (all.plain e h.session refl found.0.found, plain_all hs found.1)

  numbered_all : (hs : List Here) → AreFound o.world hs
      → AllByRecursion P (map (queued_as sender to (told_text sender to e (keeping_of o s it).row)) (map (λ (h : Here). h.session) hs))
  numbered_all [] found = tt
  numbered_all (h ∷ hs) found = (all.numbered e h.session refl found.0.found, numbered_all hs found.1)

  sent_all : (user : Option (List ℕ)) → sender.address.local ≡ user
      → AllByRecursion P (row_of user (addressed sender to) (row_text sender to e) o.moment)
  sent_all None is = tt
  sent_all (Some user) is = (all.sent e user refl is, tt)

  received_all : (user : Option (List ℕ)) → (addressed sender to).local ≡ user
      → AllByRecursion P (row_of user sender.address (row_text sender to e) o.moment)
  received_all None is = tt
  received_all (Some user) is = (all.received e user refl is, tt)

  rows_all : AllByRecursion P (rows_for sender to (row_text sender to e) o.moment)
  rows_all =
      append_all P (row_of sender.address.local (addressed sender to) (row_text sender to e) o.moment) _ (sent_all sender.address.local refl)
      (either_all P (is_to_oneself sender to) [] _ tt (received_all (addressed sender to).local refl))

  given_all : (hs : List Here) → AreFound o.world hs
      → AllByRecursion P (given sender it to form e (keeping_of o s it) (map (λ (h : Here). h.session) hs))
  given_all hs found =
      either_all P (is_kept form e) _ _
      (either_all P (is_too_much sender to e (keeping_of o s it)) _ _ (refused_all o s it P Q all ResourceConstraint)
      (append_all P (map (queued_as sender to (told_text sender to e (keeping_of o s it).row)) (map (λ (h : Here). h.session) hs)) _
      (numbered_all hs found) rows_all)) (plain_all hs found)

deliveries_all : (o : Scene) (s : ℕ) (st : Stanza) (P : Effect → Type 0) (Q : List Effect → Type 0) → Covers o s st P Q
    → (place : Place) (known : Bool) (hs : List Here) → AreFound o.world hs
    → AllByRecursion P (deliveries (here o.world s) st place known hs (keeping_of o s st))
deliveries_all o s (Message to form e) P Q all place known hs found =
    routed_all o s (Message to form e) P Q all _ place known form hs (given_all o s to form e P Q all hs found)
deliveries_all o s (Presence to form e) P Q all place known hs found = tt
deliveries_all o s (Iq to id form e) P Q all place known hs found = tt
deliveries_all o s (Faulty kind to id answered c) P Q all place known hs found = tt

users_all : (o : Scene) (s : ℕ) (st : Stanza) (P : Effect → Type 0) (Q : List Effect → Type 0) → Covers o s st P Q
    → (form : MessageForm) (place : Place) (user : Option (List ℕ))
    → AllByRecursion P (to_users o (here o.world s) st form place user)
users_all o s st P Q all form place user =
    deliveries_all o s st P Q all place
    (has_account o.users user (receivers o.world form place user (live_for o.world place (to_in st))))
    (receivers o.world form place user (live_for o.world place (to_in st)))
    (receivers_found o.world form place user (live_for o.world place (to_in st))
    (λ r live. live_for_found o.world place (to_in st) r live))

message_all : (o : Scene) (s : ℕ) (st : Stanza) (P : Effect → Type 0) (Q : List Effect → Type 0) → Covers o s st P Q
    → (own : List ℕ) (form : MessageForm) (e : Element) → element_in st ≡ Some e → (place : Place)
    → Q (message o own (here o.world s) st form e place)
message_all o s st P Q all own form e is (Room room) = all.said form e is
message_all o s st P Q all own form e is (RoomAt room nick) = all.all _ all.whispered
message_all o s st P Q all own form e is Account = all.all _ (users_all o s st P Q all form Account (user_in own Account))
message_all o s st P Q all own form e is Server = all.all _ (users_all o s st P Q all form Server (user_in own Server))
message_all o s st P Q all own form e is (User user) = all.all _ (users_all o s st P Q all form (User user) (user_in own (User user)))
message_all o s st P Q all own form e is (UserAt user resource) =
    all.all _ (users_all o s st P Q all form (UserAt user resource) (user_in own (UserAt user resource)))
message_all o s st P Q all own form e is Service = all.all _ (users_all o s st P Q all form Service (user_in own Service))
message_all o s st P Q all own form e is Foreign = all.all _ (users_all o s st P Q all form Foreign (user_in own Foreign))

at_all : (o : Scene) (s : ℕ) (st : Stanza) (P : Effect → Type 0) (Q : List Effect → Type 0) → Covers o s st P Q → (own : List ℕ) (place : Place)
    → (here o.world s).address.local ≡ Some own → place ≡ place_of own o.domain (to_in st)
    → Q (effects_at o own (here o.world s) st place)
at_all o s (Message to form e) P Q all own place mine at = message_all o s (Message to form e) P Q all own form e refl place
at_all o s (Presence to form e) P Q all own place mine at = presence_all o s to form e P Q all own place mine at
at_all o s (Iq to id form e) P Q all own place mine at = iq_all o s (Iq to id form e) P Q all own mine e refl place
at_all o s (Faulty kind to id answered c) P Q all own place mine at = all.all _ (refused_all o s (Faulty kind to id answered c) P Q all c)

by_all : (o : Scene) (s : ℕ) (st : Stanza) (P : Effect → Type 0) (Q : List Effect → Type 0) → Covers o s st P Q → (user : Option (List ℕ))
    → (here o.world s).address.local ≡ user → Q (effects_by user o (here o.world s) st)
by_all o s st P Q all None mine = all.all [] tt
by_all o s st P Q all (Some own) mine = at_all o s st P Q all own (place_of own o.domain (to_in st)) mine refl

pub effects_all : (o : Scene) (s : ℕ) (st : Stanza) (P : Effect → Type 0) (Q : List Effect → Type 0) → Covers o s st P Q
    → Q (effects_in o s st)
effects_all o s st P Q all = by_all o s st P Q all (here o.world s).address.local refl
