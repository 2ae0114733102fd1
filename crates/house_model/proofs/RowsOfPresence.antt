-- Of what comes of presence, of rosters and subscriptions, and of a departure nothing is kept.
use Rattle.std.proofs.Common.{ℕ, ℤ, List, [], ◌∷◌, ◌++◌, map, nat_lt, Bool, true, false, Option, Some, None, IfSome}
use Rattle.std.specs.Prelude.{⊤}
use Rattle.std.specs.List.{AllByRecursion}
use Rattle.jid_core.specs.Addresses.{Address}
use Rattle.stanza_tree.specs.Spelling.{text}
use Rattle.stanza_tree.specs.declared.node.Element.{Element}
use Rattle.stanza_model.specs.Replies.{refused}
use Rattle.stanza_model.specs.declared.condition.Condition.{Condition}
use Rattle.stanza_model.specs.declared.condition.Condition.TheVariants.{BadRequest, NotAcceptable, ResourceConstraint}
use Rattle.stanza_model.specs.declared.effect.Change.TheVariants as change
use Rattle.stanza_model.specs.declared.effect.Effect.{Effect}
use Rattle.stanza_model.specs.declared.effect.Effect.TheVariants.{Set}
use Rattle.stanza_model.specs.declared.here.Here.{Here}
use Rattle.stanza_model.specs.declared.kinds.PresenceForm.{PresenceForm}
use Rattle.stanza_model.specs.declared.kinds.PresenceForm.TheVariants as presence
use Rattle.stanza_model.specs.declared.shared.Shown.{Shown}
use Rattle.stanza_model.specs.declared.stanza.Stanza.{Stanza}
use Rattle.stanza_model.specs.declared.stanza.Stanza.TheVariants.{Message, Presence, Iq, Faulty}
use Rattle.stanza_router.specs.declared.places.Place.{Place}
use Rattle.stanza_router.specs.declared.places.Place.TheVariants.{Account, Server, User, UserAt, Service, Room, RoomAt, Foreign}
use Rattle.contact_table.specs.Books.{bare_of}
use Rattle.presence_core.specs.Broadcasts.{announced, asked_by, leaves, set_unavailable, shown_to, told_others, told_watchers, welcome}
use Rattle.presence_core.specs.Broadcasts.{with_priority, available, unavailable}
use Rattle.presence_core.specs.Broadcasts as broadcasts
use Rattle.presence_core.specs.Copies.{copies, copy_to, presence_text}
use Rattle.presence_core.specs.DirectedPresence.{delivered, directed, has_room, with_address, without_address}
use Rattle.presence_core.specs.Priorities.{priority_in}
use Rattle.muc_service.specs.Rooms.{Hosted, is_in}
use Rattle.house_model.specs.ArchiveLookups.{past_in}
use Rattle.house_model.specs.Lookups.{has_user, here, sessions_of}
use Rattle.house_model.specs.Presences.{directed_by, length_sent, most_of_presence, named, party, watchers}
use Rattle.house_model.specs.RoomLookups.{numbers_for, room_for, rooms_of}
use Rattle.house_model.specs.Routing.{Scene, absent_from, between, broadcast, departure, departure_by, directed_if, error_to, has_account}
use Rattle.house_model.specs.Routing.{leaves_rooms, live_for, own_contacts, parted, present_in, presence_to, roster_changed, subscribed, to_address}
use Rattle.house_model.specs.Routing.{to_be_in, to_user, unless_full, user_in, user_removed}
use Rattle.house_model.specs.Routing as routing
use Rattle.house_model.specs.States.{World}
use Rattle.house_model.specs.Traffic.{KeptTraffic}
use Rattle.house_model.proofs.Founds.{append_all, either_all, numbers_found}
use Rattle.house_model.proofs.PairCases.{subscription_all}
use Rattle.house_model.proofs.RosterCases.{IsSeen, Reaches, all_told_at, found_at, parted_all, party_seen, set_all, tells}
use Rattle.house_model.proofs.RowsOfRooms.{enter_unkept, leave_unkept, rename_unkept, rooms_unkept}
use Rattle.house_model.proofs.Unkept.{Unkept, map_unkept, refused_unkept}

abbrev Any : {X : Type 0} → X → Type 0
Any x = ⊤

-- Presence, and who departs.

gone_unkept : (who : Here) → AllByRecursion Unkept (set_unavailable who)
gone_unkept who = either_all Unkept who.available (Set (change.Unavailable who.session) ∷ []) [] (tt, tt) tt

leaves_unkept : (departing : Option ℕ) (who : Here) (rest : List ℕ) (ws ds : List Here) → AllByRecursion Unkept (leaves departing who rest ws ds)
leaves_unkept departing who rest ws ds =
    append_all Unkept (told_watchers departing who rest ws ++ told_others departing who rest ws ds) (Set (change.Directed who.session []) ∷ [])
    (append_all Unkept (told_watchers departing who rest ws) (told_others departing who rest ws ds)
    (append_all Unkept (copies rest _) (set_unavailable who) (map_unkept (copy_to rest) (λ h. tt) _) (gone_unkept who))
    (map_unkept (copy_to rest) (λ h. tt) _))
    (tt, tt)

left_unkept : (own : Option (List ℕ)) (world : World KeptTraffic) (who : Here) → AllByRecursion Unkept (departure_by own world who)
left_unkept None world who = tt
left_unkept (Some own) world who =
    leaves_unkept (Some who.session) who (text (broadcasts.departure who)) (watchers world own who) (named world (directed_by world who))

pub departure_unkept : (world : World KeptTraffic) (s : ℕ) → AllByRecursion Unkept (departure world s)
departure_unkept world s =
    append_all Unkept (departure_by (here world s).address.local world (here world s)) (leaves_rooms world.rooms s None)
    (left_unkept (here world s).address.local world (here world s)) (rooms_unkept s None (rooms_of s world.rooms))

available_all : (who : Here) (st : Stanza) (e : Element) (ws : List Here) (sh : List Shown) (xs : List Address) (p : Option ℤ)
    → AllByRecursion Unkept (with_priority who st p (λ priority. announced priority who e ws ++ welcome who sh xs))
available_all who st e ws sh xs None = refused_unkept who st BadRequest
available_all who st e ws sh xs (Some p) =
    append_all Unkept (announced p who e ws) (welcome who sh xs) (tt, map_unkept (copy_to (presence_text who e)) (λ h. tt) ws)
    (either_all Unkept who.available [] _ tt
    (append_all Unkept (map (shown_to who) sh) (map (asked_by who) xs) (map_unkept (shown_to who) (λ x. tt) sh)
    (map_unkept (asked_by who) (λ x. tt) xs)))

available_unkept : (who : Here) (st : Stanza) (ws : List Here) (sh : List Shown) (xs : List Address)
    → AllByRecursion Unkept (available who st ws sh xs)
available_unkept who (Presence None presence.Available e) ws sh xs =
    available_all who (Presence None presence.Available e) e ws sh xs (priority_in e)
available_unkept who (Presence None presence.Unavailable e) ws sh xs = tt
available_unkept who (Presence None presence.Subscribe e) ws sh xs = tt
available_unkept who (Presence None presence.Subscribed e) ws sh xs = tt
available_unkept who (Presence None presence.Unsubscribe e) ws sh xs = tt
available_unkept who (Presence None presence.Unsubscribed e) ws sh xs = tt
available_unkept who (Presence None presence.Probe e) ws sh xs = tt
available_unkept who (Presence None presence.Error e) ws sh xs = tt
available_unkept who (Presence (Some to) form e) ws sh xs = tt
available_unkept who (Message to form e) ws sh xs = tt
available_unkept who (Iq to id form e) ws sh xs = tt
available_unkept who (Faulty kind to id answered c) ws sh xs = tt

unavailable_unkept : (who : Here) (st : Stanza) (ws ds : List Here) → AllByRecursion Unkept (unavailable who (Some st) ws ds)
unavailable_unkept who (Presence None presence.Unavailable e) ws ds = leaves_unkept None who (presence_text who e) ws ds
unavailable_unkept who (Presence None presence.Available e) ws ds = tt
unavailable_unkept who (Presence None presence.Subscribe e) ws ds = tt
unavailable_unkept who (Presence None presence.Subscribed e) ws ds = tt
unavailable_unkept who (Presence None presence.Unsubscribe e) ws ds = tt
unavailable_unkept who (Presence None presence.Unsubscribed e) ws ds = tt
unavailable_unkept who (Presence None presence.Probe e) ws ds = tt
unavailable_unkept who (Presence None presence.Error e) ws ds = tt
unavailable_unkept who (Presence (Some to) form e) ws ds = tt
unavailable_unkept who (Message to form e) ws ds = tt
unavailable_unkept who (Iq to id form e) ws ds = tt
unavailable_unkept who (Faulty kind to id answered c) ws ds = tt

delivered_unkept : (who : Here) (e : Element) (hs : List Here) (list : List Address) → AllByRecursion Unkept (delivered who e hs list)
delivered_unkept who e hs list =
    append_all Unkept (copies (presence_text who e) hs) _ (map_unkept (copy_to (presence_text who e)) (λ h. tt) hs) (tt, tt)

directed_unkept : (who : Here) (st : Stanza) (hs : List Here) (list : List Address) → AllByRecursion Unkept (directed who st hs list)
directed_unkept who (Presence (Some to) presence.Available e) hs list =
    either_all Unkept (has_room to list) _ _ (delivered_unkept who e hs (with_address to list))
    (refused_unkept who (Presence (Some to) presence.Available e) ResourceConstraint)
directed_unkept who (Presence (Some to) presence.Unavailable e) hs list = delivered_unkept who e hs (without_address to list)
directed_unkept who (Presence (Some to) presence.Subscribe e) hs list = tt
directed_unkept who (Presence (Some to) presence.Subscribed e) hs list = tt
directed_unkept who (Presence (Some to) presence.Unsubscribe e) hs list = tt
directed_unkept who (Presence (Some to) presence.Unsubscribed e) hs list = tt
directed_unkept who (Presence (Some to) presence.Probe e) hs list = tt
directed_unkept who (Presence (Some to) presence.Error e) hs list = tt
directed_unkept who (Presence None form e) hs list = tt
directed_unkept who (Message to form e) hs list = tt
directed_unkept who (Iq to id form e) hs list = tt
directed_unkept who (Faulty kind to id answered c) hs list = tt

-- Rosters, subscriptions and presence.

module _ (o : Scene) (s : ℕ) (st : Stanza) where
  abbrev who : Here
  who = here o.world s

  no : (c : Condition) → AllByRecursion Unkept (refused who st c)
  no c = refused_unkept who st c

  each : Reaches o.world Unkept Any Any Any
  each = record {
    sees = λ a b on. tt;
    asked = λ a b on. tt;
    contact = λ user address name groups. tt;
    no_contact = λ user address. tt;
    count = λ h at n. tt;
    item = λ h at e short. tt;
    presence = λ h at a form short. tt;
    sent = λ h at t short. tt;
    gone = λ h at. tt;
  }

  seen : (user : List ℕ) → IsSeen o.world Any Any Any (party o.domain o.world user)
  seen user = party_seen o.domain o.world user Any Any Any tt (λ a side short. tt) (λ h. tt)

  parted_unkept : (own : List ℕ) (user : Option (List ℕ)) → AllByRecursion Unkept (parted o own user)
  parted_unkept own None = tt
  parted_unkept own (Some user) =
      parted_all o.world Unkept Any Any Any each (party o.domain o.world own) (party o.domain o.world user) (seen own) (seen user)
      (all_told_at o.world (sessions_of o.world user) (numbers_found o.world user))

  pub roster_unkept : (own : List ℕ) → AllByRecursion Unkept (roster_changed o own who st)
  roster_unkept own =
      append_all Unkept (parted o own (user_removed o own st)) _ (parted_unkept own (user_removed o own st))
      (set_all o.world Unkept Any Any Any each (bare_of o.domain own) (own_contacts o own) who (sessions_of o.world own) st
      (found_at o.world (sessions_of o.world own) (numbers_found o.world own)) (λ c. tt) tt (λ w wants whole. tt))

  full_unkept : (found : Option (List Effect)) → IfSome found (λ es. AllByRecursion Unkept es) → AllByRecursion Unkept (unless_full who st found)
  full_unkept None is = no ResourceConstraint
  full_unkept (Some es) is = is

  subscribed_unkept : (own : List ℕ) (form : PresenceForm) (user : Option (List ℕ)) → AllByRecursion Unkept (subscribed o own who st form user)
  subscribed_unkept own form None = tt
  subscribed_unkept own form (Some user) =
      either_all Unkept (has_user o.users user) _ []
      (full_unkept (between o own user form)
      (subscription_all Unkept (party o.domain o.world own) (party o.domain o.world user)
      (tells o.world Unkept Any Any Any each (party o.domain o.world own) (party o.domain o.world user) (seen own) (seen user)) form)) tt

  broadcast_unkept : (own : List ℕ) (form : PresenceForm) → AllByRecursion Unkept (broadcast o own who st form)
  broadcast_unkept own presence.Available = available_unkept who st (watchers o.world own who) _ _
  broadcast_unkept own presence.Unavailable =
      append_all Unkept (unavailable who (Some st) (watchers o.world own who) (named o.world (directed_by o.world who)))
      (leaves_rooms o.world.rooms who.session (Some st))
      (unavailable_unkept who st (watchers o.world own who) (named o.world (directed_by o.world who)))
      (rooms_unkept who.session (Some st) (rooms_of who.session o.world.rooms))
  broadcast_unkept own presence.Subscribe = no BadRequest
  broadcast_unkept own presence.Subscribed = no BadRequest
  broadcast_unkept own presence.Unsubscribe = no BadRequest
  broadcast_unkept own presence.Unsubscribed = no BadRequest
  broadcast_unkept own presence.Probe = no BadRequest
  broadcast_unkept own presence.Error = no BadRequest

  directed_if_unkept : (known : Bool) (hs : List Here) → AllByRecursion Unkept (directed_if known o.world who st hs)
  directed_if_unkept true hs = directed_unkept who st hs (directed_by o.world who)
  directed_if_unkept false hs = tt

  error_unkept : (to : Address) (e : Element) (live : Option ℕ) → AllByRecursion Unkept (error_to o.world who to e live)
  error_unkept to e (Some r) = (tt, tt)
  error_unkept to e None = tt

  user_unkept : (own : List ℕ) (to : Address) (form : PresenceForm) (e : Element) (place : Place)
      → AllByRecursion Unkept (to_user o own who st to form e place)
  user_unkept own to presence.Available e place =
      directed_if_unkept (has_account o.users (user_in own place) (named o.world (to ∷ []))) (named o.world (to ∷ []))
  user_unkept own to presence.Unavailable e place =
      directed_if_unkept (has_account o.users (user_in own place) (named o.world (to ∷ []))) (named o.world (to ∷ []))
  user_unkept own to presence.Error e place = error_unkept to e (live_for o.world place (Some to))
  user_unkept own to presence.Probe e place = tt
  user_unkept own to presence.Subscribe e place = subscribed_unkept own presence.Subscribe (user_in own place)
  user_unkept own to presence.Subscribed e place = subscribed_unkept own presence.Subscribed (user_in own place)
  user_unkept own to presence.Unsubscribe e place = subscribed_unkept own presence.Unsubscribe (user_in own place)
  user_unkept own to presence.Unsubscribed e place = subscribed_unkept own presence.Unsubscribed (user_in own place)

  -- in a room
  present_unkept : (found : Option Hosted) → AllByRecursion Unkept (present_in o.world who st found)
  present_unkept None = enter_unkept None (numbers_for o.world.rooms who.session) who st []
  present_unkept (Some h) =
      either_all Unkept (is_in who.session h) _ _ (rename_unkept h.room who st)
      (enter_unkept (Some h.room) (numbers_for o.world.rooms who.session) who st (past_in o.world.archives h))

  absent_unkept : (found : Option Hosted) → AllByRecursion Unkept (absent_from who st found)
  absent_unkept None = tt
  absent_unkept (Some h) = leave_unkept h.room who.session (Some st)

  be_in_unkept : (form : PresenceForm) (found : Option Hosted) → AllByRecursion Unkept (to_be_in o.world who st form found)
  be_in_unkept presence.Available found = present_unkept found
  be_in_unkept presence.Unavailable found = absent_unkept found
  be_in_unkept presence.Subscribe found = tt
  be_in_unkept presence.Subscribed found = tt
  be_in_unkept presence.Unsubscribe found = tt
  be_in_unkept presence.Unsubscribed found = tt
  be_in_unkept presence.Probe found = tt
  be_in_unkept presence.Error found = tt

  address_unkept : (own : List ℕ) (to : Address) (form : PresenceForm) (e : Element) (place : Place)
      → AllByRecursion Unkept (to_address o own who st to form e place)
  address_unkept own to form e Account = user_unkept own to form e Account
  address_unkept own to form e (User user) = user_unkept own to form e (User user)
  address_unkept own to form e (UserAt user resource) = user_unkept own to form e (UserAt user resource)
  address_unkept own to form e (Room room) = be_in_unkept form (room_for o.world.rooms (Some to))
  address_unkept own to form e (RoomAt room nick) = be_in_unkept form (room_for o.world.rooms (Some to))
  address_unkept own to form e Server = tt
  address_unkept own to form e Service = tt
  address_unkept own to form e Foreign = tt

  to_unkept : (own : List ℕ) (to : Option Address) (form : PresenceForm) (e : Element) (place : Place)
      → AllByRecursion Unkept (presence_to o own who st to form e place)
  to_unkept own None form e place = broadcast_unkept own form
  to_unkept own (Some to) form e place = address_unkept own to form e place

  pub presence_unkept : (own : List ℕ) (to : Option Address) (form : PresenceForm) (e : Element) (place : Place)
      → AllByRecursion Unkept (routing.presence o own who st to form e place)
  presence_unkept own to form e place =
      either_all Unkept (nat_lt most_of_presence (length_sent who to e)) _ _ (no NotAcceptable) (to_unkept own to form e place)
