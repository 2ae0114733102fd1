-- What comes of a stanza keeps what is said, and nothing else; and nothing is kept of a departure.
use Rattle.std.proofs.Common.{ℕ, List, [], map, codes, Bool, true, ◌||◌, ◌≡◌, refl, sym, subst, Option, Some, None, if◌then◌else◌, Result, Ok, Err}
use Rattle.std.specs.List.{AllByRecursion, filter}
use Rattle.jid_core.specs.Addresses.{Address}
use Rattle.stanza_tree.specs.declared.node.Element.{Element}
use Rattle.stanza_model.specs.Replies.{refused}
use Rattle.stanza_model.specs.Rosters.{roster_space}
use Rattle.stanza_model.specs.declared.condition.Condition.{Condition}
use Rattle.stanza_model.specs.declared.condition.Condition.TheVariants.{BadRequest, FeatureNotImplemented, Forbidden, ItemNotFound, NotAllowed}
use Rattle.stanza_model.specs.declared.condition.Condition.TheVariants.{RemoteServerNotFound, ServiceUnavailable}
use Rattle.stanza_model.specs.declared.effect.Effect.{Effect}
use Rattle.stanza_model.specs.declared.here.Here.{Here}
use Rattle.stanza_model.specs.declared.kinds.MessageForm.{MessageForm}
use Rattle.stanza_model.specs.declared.kinds.MessageForm.TheVariants as message
use Rattle.stanza_model.specs.declared.stanza.Stanza.{Stanza}
use Rattle.stanza_model.specs.declared.stanza.Stanza.TheVariants.{Message, Presence, Iq, Faulty}
use Rattle.stanza_router.specs.Messages.{is_kept}
use Rattle.stanza_router.specs.Places.{place_of}
use Rattle.stanza_router.specs.declared.places.Place.{Place}
use Rattle.stanza_router.specs.declared.places.Place.TheVariants.{Account, Server, User, UserAt, Service, Room, RoomAt, Foreign}
use Rattle.muc_room.specs.Saying.{say}
use Rattle.muc_admin.specs.Items.{admin_space}
use Rattle.muc_owner.specs.Inviting.{invite}
use Rattle.muc_owner.specs.Owning.{owner_space}
use Rattle.muc_service.specs.Rooms.{Hosted}
use Rattle.rsm_paging.specs.Pages.{asked_id, is_known}
use Rattle.rsm_paging.specs.declared.ask.Row.{Row}
use Rattle.archive_table.specs.Pages.{shown}
use Rattle.mam_wire.specs.Answers.{mam_space}
use Rattle.mam_wire.specs.Queries.{query_of}
use Rattle.mam_wire.specs.Stamps.{stamp_text}
use Rattle.mam_wire.specs.declared.fault.QueryFault.{QueryFault}
use Rattle.mam_wire.specs.declared.fault.QueryFault.TheVariants as fault
use Rattle.mam_wire.specs.declared.query.Query.{Query}
use Rattle.house_model.specs.declared.event.Event.TheVariants as event
use Rattle.house_model.specs.ArchiveLookups.{keeping_in, rows_in}
use Rattle.house_model.specs.Archives.{archived, answered, asked, may_read, paged, queried, query_in, shown_to}
use Rattle.house_model.specs.Archiving.{AddsFew, KeepsMessages, KeepsNothing, KeepsWhatIsSaid, exchanged, exchanged_by, found_for, if_delivered}
use Rattle.house_model.specs.Archiving.{is_keep, kept_if}
use Rattle.house_model.specs.Histories.{Turn, after, IsOpening}
use Rattle.house_model.specs.Lookups.{here}
use Rattle.house_model.specs.Requests.{asks_a_room, begins_session, binds_resource, discovers, gets, pings, queries, sets}
use Rattle.house_model.specs.RoomLookups.{called, room_for}
use Rattle.house_model.specs.Routing.{Scene, asked_of, departure, effects_by, effects_in, has_account, iq, is_invitation, live_for, to_account}
use Rattle.house_model.specs.Routing.{to_all_in, to_no_room, to_one_in, to_room, to_server, to_service, to_session, to_users, user_in, effects}
use Rattle.house_model.specs.Routing.{scene_of}
use Rattle.house_model.specs.Routing as routing
use Rattle.house_model.specs.States.{World, State, keep}
use Rattle.house_model.specs.Steps.{turn}
use Rattle.house_model.specs.Traffic.{KeptTraffic}
use Rattle.house_model.proofs.Founds.{append_all, either_all}
use Rattle.house_model.proofs.RowsOfPresence.{departure_unkept, presence_unkept, roster_unkept}
use Rattle.house_model.proofs.RowsOfRooms.{admin_unkept, direct_unkept, invite_unkept, owner_unkept, say_kept}
use Rattle.house_model.proofs.RowsOfUsers.{given_kept, refused_kept, routed_all}
use Rattle.house_model.proofs.Unkept.{IsKept, Unkept, kept_none, map_unkept, nothing_kept, refused_unkept}

-- Requests.

module _ (o : Scene) (s : ℕ) (st : Stanza) where
  abbrev who : Here
  who = here o.world s

  no : (c : Condition) → AllByRecursion Unkept (refused who st c)
  no c = refused_unkept who st c

  server_unkept : (place : Place) → AllByRecursion Unkept (to_server who st place)
  server_unkept place =
      either_all Unkept (begins_session st || pings st) _ _ (tt, tt)
      (either_all Unkept (discovers st) _ _ (tt, tt) (either_all Unkept (binds_resource st) _ _ (no NotAllowed) (no ServiceUnavailable)))

  service_unkept : (place : Place) → AllByRecursion Unkept (to_service o.world.rooms who st place)
  service_unkept place =
      either_all Unkept (discovers st) _ _ (tt, tt) (either_all Unkept (pings st) _ _ (tt, tt) (no ServiceUnavailable))

  asked_of_unkept : (found : Option Hosted) → AllByRecursion Unkept (asked_of who st found)
  asked_of_unkept None = either_all Unkept (asks_a_room st) _ _ (no ItemNotFound) (no ServiceUnavailable)
  asked_of_unkept (Some h) =
      either_all Unkept (queries admin_space st) _ _ (admin_unkept h.room who st)
      (either_all Unkept (queries owner_space st) _ _ (owner_unkept h.room who st) (no ServiceUnavailable))

  -- of an archive
  answered_unkept : (from : Option Address) (rows : List Row) (q : Query) → AllByRecursion Unkept (answered who st from rows q)
  answered_unkept from rows q =
      append_all Unkept (map (shown_to who from q.queryid) (shown rows q.filter q.ask)) _
      (map_unkept (shown_to who from q.queryid) (λ row. tt) (shown rows q.filter q.ask)) (tt, tt)

  paged_unkept : (from : Option Address) (rows : List Row) (query : Result Query QueryFault) → AllByRecursion Unkept (paged who st from rows query)
  paged_unkept from rows (Ok q) =
      either_all Unkept (is_known rows (asked_id q.ask.after q.ask.before)) _ _ (answered_unkept from rows q) (no ItemNotFound)
  paged_unkept from rows (Err fault.NotImplemented) = no FeatureNotImplemented
  paged_unkept from rows (Err fault.BadRequest) = no BadRequest
  paged_unkept from rows (Err fault.NoMemory) = no BadRequest

  queried_unkept : (from : Option Address) (rows : List Row) (query : Option Element) → AllByRecursion Unkept (queried who st from rows query)
  queried_unkept from rows None = no BadRequest
  queried_unkept from rows (Some query) = paged_unkept from rows (query_of query)

  asked_unkept : (may : Bool) (from : Option Address) (rows : List Row) → AllByRecursion Unkept (asked may who st from rows)
  asked_unkept may from rows =
      either_all Unkept (gets mam_space (codes "query") st) _ _ (tt, tt)
      (either_all Unkept may _ _ (queried_unkept from rows (query_in st)) (no Forbidden))

  archived_unkept : (found : Option Hosted) → AllByRecursion Unkept (archived o.world.archives who st found)
  archived_unkept None = no ItemNotFound
  archived_unkept (Some h) = asked_unkept (may_read h who) (Some h.room.address) (rows_in o.world.archives h).kept

  room_unkept : (place : Place) (found : Option Hosted) → AllByRecursion Unkept (to_room o.world who st place found)
  room_unkept place found =
      either_all Unkept (discovers st) _ _ (tt, tt)
      (either_all Unkept (pings st) _ _ (tt, tt)
      (either_all Unkept (queries mam_space st) _ _ (archived_unkept found) (asked_of_unkept found)))

  account_unkept : (own : List ℕ) → AllByRecursion Unkept (to_account o own who st)
  account_unkept own =
      either_all Unkept (gets roster_space (codes "query") st) _ _ (tt, (tt, tt))
      (either_all Unkept (sets roster_space (codes "query") st) _ _ (roster_unkept o s st own)
      (either_all Unkept (queries mam_space st) _ _ (asked_unkept true None (o.world.archives.users own).kept) (server_unkept Account)))

  session_unkept : (to : Option Address) (e : Element) (live : Option ℕ) → AllByRecursion Unkept (to_session o.world who st to e live)
  session_unkept to e (Some r) = (tt, tt)
  session_unkept to e None = no ServiceUnavailable

  iq_unkept : (own : List ℕ) (to : Option Address) (e : Element) (place : Place) → AllByRecursion Unkept (iq o own who st to e place)
  iq_unkept own to e Account = account_unkept own
  iq_unkept own to e Server = server_unkept Server
  iq_unkept own to e (User user) = no ServiceUnavailable
  iq_unkept own to e (UserAt user resource) = session_unkept to e (live_for o.world (UserAt user resource) to)
  iq_unkept own to e Service = service_unkept Service
  iq_unkept own to e (Room room) = room_unkept (Room room) (room_for o.world.rooms to)
  iq_unkept own to e (RoomAt room nick) = no ServiceUnavailable
  iq_unkept own to e Foreign = no RemoteServerNotFound

-- Messages.

-- What holds of a list of which nothing is kept, of what is said in a room, and of a message between users, whatever is done with it; and of
-- what is to be kept of the list for users
pub record Covers (o : Scene) (s : ℕ) (st : Stanza) (Q : List Effect → List Effect → Type 0) : Type 0 where
  pub unkept : (es : List Effect) → AllByRecursion Unkept es → Q es []
  pub said : (to : Option Address) (e : Element) (h : Hosted) → st ≡ Message to message.Groupchat e → room_for o.world.rooms to ≡ Some h
      → Q (say h.room (here o.world s) st (keeping_in o.world.archives h o.moment) (stamp_text o.moment)) []
  pub exchanged : (own : List ℕ) (to : Option Address) (form : MessageForm) (e : Element) (place : Place) → st ≡ Message to form e
      → (here o.world s).address.local ≡ Some own
      → Q (to_users o (here o.world s) st form place (user_in own place))
      (filter is_keep (if_delivered o own (here o.world s) st form place (kept_if (is_kept form e) o (here o.world s) st e)))

module _ (o : Scene) (s : ℕ) (to : Option Address) (form : MessageForm) (e : Element) (Q : List Effect → List Effect → Type 0)
    (covers : Covers o s (Message to form e) Q) where
  abbrev from : Here
  from = here o.world s

  abbrev sent : Stanza
  sent = Message to form e

  invited_unkept : (h : Hosted)
      → AllByRecursion Unkept (if is_invitation e then invite h.room from sent (called o.domain o.world e) else refused from sent BadRequest)
  invited_unkept h =
      either_all Unkept (is_invitation e) _ _ (invite_unkept h.room from sent (called o.domain o.world e)) (refused_unkept from sent BadRequest)

  one_in_unkept : (found : Option Hosted) → AllByRecursion Unkept (to_one_in from sent found)
  one_in_unkept None = refused_unkept from sent ItemNotFound
  one_in_unkept (Some h) = direct_unkept h.room from sent

all_in_kept : (o : Scene) (s : ℕ) (to : Option Address) (form : MessageForm) (e : Element) (Q : List Effect → List Effect → Type 0)
    → Covers o s (Message to form e) Q → (found : Option Hosted) → room_for o.world.rooms to ≡ found
    → Q (to_all_in o (here o.world s) (Message to form e) form e found) []
all_in_kept o s to form e Q covers None is = covers.unkept _ (refused_unkept (here o.world s) (Message to form e) (to_no_room form e))
all_in_kept o s to message.Groupchat e Q covers (Some h) is = covers.said to e h refl is
all_in_kept o s to message.Chat e Q covers (Some h) is = covers.unkept _ (invited_unkept o s to message.Chat e Q covers h)
all_in_kept o s to message.Normal e Q covers (Some h) is = covers.unkept _ (invited_unkept o s to message.Normal e Q covers h)
all_in_kept o s to message.Headline e Q covers (Some h) is = covers.unkept _ (invited_unkept o s to message.Headline e Q covers h)
all_in_kept o s to message.Error e Q covers (Some h) is = covers.unkept _ (invited_unkept o s to message.Error e Q covers h)

message_kept : (o : Scene) (s : ℕ) (to : Option Address) (form : MessageForm) (e : Element) (Q : List Effect → List Effect → Type 0)
    → Covers o s (Message to form e) Q → (own : List ℕ) → (here o.world s).address.local ≡ Some own → (place : Place)
    → Q (routing.message o own (here o.world s) (Message to form e) form e place)
    (filter is_keep (if_delivered o own (here o.world s) (Message to form e) form place
    (kept_if (is_kept form e) o (here o.world s) (Message to form e) e)))
message_kept o s to form e Q covers own mine (Room room) = all_in_kept o s to form e Q covers (room_for o.world.rooms to) refl
message_kept o s to form e Q covers own mine (RoomAt room nick) = covers.unkept _ (one_in_unkept o s to form e Q covers (room_for o.world.rooms to))
message_kept o s to form e Q covers own mine Account = covers.exchanged own to form e Account refl mine
message_kept o s to form e Q covers own mine Server = covers.exchanged own to form e Server refl mine
message_kept o s to form e Q covers own mine (User user) = covers.exchanged own to form e (User user) refl mine
message_kept o s to form e Q covers own mine (UserAt user resource) = covers.exchanged own to form e (UserAt user resource) refl mine
message_kept o s to form e Q covers own mine Service = covers.exchanged own to form e Service refl mine
message_kept o s to form e Q covers own mine Foreign = covers.exchanged own to form e Foreign refl mine

-- Every stanza.

by_kept : (o : Scene) (s : ℕ) (st : Stanza) (Q : List Effect → List Effect → Type 0) → Covers o s st Q → (user : Option (List ℕ))
    → (here o.world s).address.local ≡ user → Q (effects_by user o (here o.world s) st) (exchanged_by user o (here o.world s) st)
by_kept o s st Q covers None mine = covers.unkept [] tt
by_kept o s (Message to form e) Q covers (Some own) mine = message_kept o s to form e Q covers own mine (place_of own o.domain to)
by_kept o s (Presence to form e) Q covers (Some own) mine =
    covers.unkept _ (presence_unkept o s (Presence to form e) own to form e (place_of own o.domain to))
by_kept o s (Iq to id form e) Q covers (Some own) mine = covers.unkept _ (iq_unkept o s (Iq to id form e) own to e (place_of own o.domain to))
by_kept o s (Faulty kind to id answered c) Q covers (Some own) mine =
    covers.unkept _ (refused_unkept (here o.world s) (Faulty kind to id answered c) c)

pub effects_kept : (o : Scene) (s : ℕ) (st : Stanza) (Q : List Effect → List Effect → Type 0) → Covers o s st Q
    → Q (effects_in o s st) (exchanged o s st)
effects_kept o s st Q covers = by_kept o s st Q covers (here o.world s).address.local refl

users_kept : (o : Scene) (s : ℕ) (own : List ℕ) (to : Option Address) (form : MessageForm) (e : Element) (place : Place)
    → IsKept (to_users o (here o.world s) (Message to form e) form place (user_in own place))
    (filter is_keep (if_delivered o own (here o.world s) (Message to form e) form place
    (kept_if (is_kept form e) o (here o.world s) (Message to form e) e)))
users_kept o s own to form e place =
    let found : List Here = found_for o own (Message to form e) form place in
    routed_all IsKept (here o.world s) (Message to form e) _ (kept_if (is_kept form e) o (here o.world s) (Message to form e) e)
    (given_kept o (here o.world s) to form e (map (λ h. h.session) found)) (λ c. refused_kept (here o.world s) (Message to form e) c)
    (kept_none [] tt) place (has_account o.users (user_in own place) found) form found

exchanged_kept : (o : Scene) (s : ℕ) (st : Stanza) (own : List ℕ) (to : Option Address) (form : MessageForm) (e : Element) (place : Place)
    → st ≡ Message to form e → IsKept (to_users o (here o.world s) st form place (user_in own place))
    (filter is_keep (if_delivered o own (here o.world s) st form place (kept_if (is_kept form e) o (here o.world s) st e)))
exchanged_kept o s st own to form e place is =
    subst (λ (x : Stanza). IsKept (to_users o (here o.world s) x form place (user_in own place))
    (filter is_keep (if_delivered o own (here o.world s) x form place (kept_if (is_kept form e) o (here o.world s) x e)))) (sym is)
    (users_kept o s own to form e place)

pub stanza_kept : (o : Scene) (s : ℕ) (st : Stanza) → IsKept (effects_in o s st) (exchanged o s st)
stanza_kept o s st =
    effects_kept o s st IsKept (record {
      unkept = λ es all. kept_none es all;
      said = λ to e h is at. say_kept h.room (here o.world s) st (keeping_in o.world.archives h o.moment) (stamp_text o.moment);
      exchanged = λ own to form e place is mine. exchanged_kept o s st own to form e place is;
    })

pub keeps : (o : State) (h : List Turn) (w s t : ℕ) (x : Stanza) → IsOpening o
    → KeepsWhatIsSaid (scene_of (keep (turn (event.Act w x t) (after o h)))) s x
keeps o h w s t x starts =
    let is = stanza_kept (scene_of (keep (turn (event.Act w x t) (after o h)))) s x in
    record { rooms = is.messages; users = is.keeps }

pub few : (o : State) (h : List Turn) (w s t : ℕ) (x : Stanza) → IsOpening o → AddsFew (effects (keep (turn (event.Act w x t) (after o h))) s x)
few o h w s t x starts = (stanza_kept (scene_of (keep (turn (event.Act w x t) (after o h)))) s x).few

pub quiet : (world : World KeptTraffic) (s : ℕ) → KeepsNothing (departure world s)
quiet world s = (nothing_kept (departure world s) (departure_unkept world s)).rows

pub quiet_messages : (world : World KeptTraffic) (s : ℕ) → KeepsMessages (departure world s)
quiet_messages world s = (kept_none (departure world s) (departure_unkept world s)).messages

pub quiet_few : (world : World KeptTraffic) (s : ℕ) → AddsFew (departure world s)
quiet_few world s = (kept_none (departure world s) (departure_unkept world s)).few
