-- What comes of a stanza for a room notes nothing of users, and neither do the views that are queued of a broadcast.
use Rattle.std.proofs.Common.{◌≡◌, ℕ, List, [], ◌∷◌, map, flat_map, codes, refl, ap, ◌∙◌, Bool, Option, Some, None, Result, Ok, Err, IfSome}
use Rattle.std.proofs.Common.{if◌then◌else◌}
use Rattle.std.specs.Prelude.{⊤}
use Rattle.std.specs.List.{AllByRecursion}
use Rattle.jid_core.specs.Addresses.{Address}
use Rattle.stanza_tree.specs.declared.node.Element.{Element}
use Rattle.stanza_model.specs.Replies.{refused}
use Rattle.stanza_model.specs.declared.condition.Condition.TheVariants.{BadRequest, FeatureNotImplemented, Forbidden, ItemNotFound, ServiceUnavailable}
use Rattle.stanza_model.specs.declared.effect.Effect.{Effect}
use Rattle.stanza_model.specs.declared.effect.Effect.TheVariants.{Queue, Broadcast, Enter, Leave, Keep, Set}
use Rattle.stanza_model.specs.declared.here.Here.{Here}
use Rattle.stanza_model.specs.declared.keeping.Keeping.{Keeping}
use Rattle.stanza_model.specs.declared.kinds.MessageForm.{MessageForm}
use Rattle.stanza_model.specs.declared.kinds.MessageForm.TheVariants as message
use Rattle.stanza_model.specs.declared.kinds.PresenceForm.{PresenceForm}
use Rattle.stanza_model.specs.declared.kinds.PresenceForm.TheVariants.{Available, Unavailable, Subscribe, Subscribed, Unsubscribe}
use Rattle.stanza_model.specs.declared.kinds.PresenceForm.TheVariants.{Unsubscribed, Probe, Error}
use Rattle.stanza_model.specs.declared.room.Delayed.{Delayed}
use Rattle.stanza_model.specs.declared.room.Occupant.{Occupant}
use Rattle.stanza_model.specs.declared.room.Room.{Room}
use Rattle.stanza_model.specs.declared.room.RoomItem.{RoomItem}
use Rattle.stanza_model.specs.declared.stanza.Stanza.{Stanza}
use Rattle.contact_table.specs.Books.{Book, noted}
use Rattle.roster_laws.specs.Keeping.{noted_all}
use Rattle.roster_laws.proofs.EffectLemmas.{IsQuiet, noted_then, quiet_both, quiet_either, quiet_map, quiet_refused}
use Rattle.muc_room.specs.Entering.{enter}
use Rattle.muc_room.specs.Leaving.{leave, last_words}
use Rattle.muc_room.specs.Renaming.{rename}
use Rattle.muc_room.specs.Saying.{direct, say}
use Rattle.muc_admin.specs.Administration.{admin}
use Rattle.muc_owner.specs.Inviting.{copies, invite}
use Rattle.muc_admin.specs.Items.{admin_space}
use Rattle.muc_owner.specs.Owning.{owner, owner_space}
use Rattle.muc_service.specs.Casting.{cast, copies_for, copies_in, copy_for, heard}
use Rattle.muc_service.specs.Rooms.{Hosted, Rooms, hosted_as, is_in, step}
use Rattle.rsm_paging.specs.Pages.{asked_id, is_known}
use Rattle.rsm_paging.specs.declared.ask.Row.{Row}
use Rattle.archive_table.specs.Archives.{Archives}
use Rattle.archive_table.specs.Pages.{shown}
use Rattle.mam_wire.specs.Answers.{mam_space}
use Rattle.mam_wire.specs.Queries.{query_of}
use Rattle.mam_wire.specs.Stamps.{stamp_text}
use Rattle.mam_wire.specs.declared.query.Query.{Query}
use Rattle.mam_wire.specs.declared.fault.QueryFault.{QueryFault}
use Rattle.mam_wire.specs.declared.fault.QueryFault.TheVariants as fault
use Rattle.house_model.specs.ArchiveLookups.{keeping_in, past_in, rows_in}
use Rattle.house_model.specs.Archives.{archived, asked, may_read, paged, queried, query_in, shown_to}
use Rattle.house_model.specs.Requests.{asks_a_room, discovers, gets, pings, queries}
use Rattle.house_model.specs.RoomLookups.{called, numbers_for, rooms_of}
use Rattle.house_model.specs.Routing.{Scene, absent_from, asked_of, is_invitation, leaves_rooms, present_in, to_all_in, to_be_in}
use Rattle.house_model.specs.Routing.{to_no_room, to_one_in, to_room}
use Rattle.house_model.specs.States.{World}
use Rattle.house_model.specs.Traffic.{KeptTraffic}
use Rattle.stanza_router.specs.declared.places.Place.{Place}
use Rattle.house_model.proofs.RoomCases.{Enters, Leaves, Says, Shows, Whispers, direct_rows, enter_rows, leave_rows, rename_rows, say_rows}
use Rattle.house_model.proofs.RequestCases.{Calls, Manages, Owns, Sets, admin_rows, invite_rows, owner_rows}

abbrev Any : {X : Type 0} → X → Type 0
Any x = ⊤

any_all : {X : Type 0} (xs : List X) → AllByRecursion Any xs
any_all [] = tt
any_all (x ∷ xs) = (tt, any_all xs)

abbrev One : Effect → Type 0
One e = IsQuiet (e ∷ [])

all_quiet : (es : List Effect) → AllByRecursion One es → IsQuiet es
all_quiet [] all = λ k. refl
all_quiet (e ∷ es) all = quiet_both (e ∷ []) es all.0 (all_quiet es all.1)

-- the tables of a room

leave_quiet : (room : Room) (s : ℕ) (st : Option Stanza) → IsQuiet (leave room s st)
leave_quiet room s st = all_quiet (leave room s st) (leave_rows room s st One Any each (any_all room.occupants)) where
  each : Leaves room s (last_words st) One Any
  each = record { item = λ o is k. refl; told = λ o is k. refl; left = λ k. refl; gone = λ k. refl }

module _ (room : Room) (who : Here) (st : Stanza) where
  says : (keeping : Keeping) (stamp : List ℕ) → Says room who st keeping stamp One Any
  says keeping stamp = record {
    refusal = λ c k. refl;
    item = λ o e is at k. refl;
    row = λ o e is at has k. refl;
    subject = λ o e is at has k. refl;
  }

  whispers : Whispers room who st One Any Any
  whispers = record { refusal = λ c k. refl; seats = λ o is. any_all o.seats; private = λ o e x is fits at k. refl }

  say_quiet : (keeping : Keeping) (stamp : List ℕ) → IsQuiet (say room who st keeping stamp)
  say_quiet keeping stamp =
      all_quiet (say room who st keeping stamp) (say_rows room who st keeping stamp One Any (says keeping stamp) (any_all room.occupants))

  direct_quiet : IsQuiet (direct room who st)
  direct_quiet = all_quiet (direct room who st) (direct_rows room who st One Any Any whispers (any_all room.occupants))

  shows : (e : Element) → Shows room who st e One Any
  shows e = record {
    refusal = λ c k. refl;
    shown = λ k. refl;
    again = λ o is k. refl;
    item = λ o to nick is at named k. refl;
    old = λ o to nick is at named k. refl;
    renamed = λ to nick at named k. refl;
  }

  rename_quiet : IsQuiet (rename room who st)
  rename_quiet = all_quiet (rename room who st) (rename_rows room who st One Any (λ e at. shows e) (any_all room.occupants))

  sets : Sets room One Any Any
  sets = record {
    seats = λ o is. any_all o.seats;
    role = λ o role is. tt;
    affiliation = λ o a is. tt;
    removed = λ r o a code same is few k. refl;
    left = λ r x same is k. refl;
    changed = λ r o a role same is k. refl;
    given = λ r o role same is k. refl;
    affiliated = λ r address a same k. refl;
    gone = λ r same k. refl;
  }

  admin_quiet : IsQuiet (admin room who st)
  admin_quiet = all_quiet (admin room who st) (admin_rows room who st One Any Any each (any_all room.occupants)) where
    each : Manages room who st One Any Any
    each = record { refusal = λ c k. refl; result = λ k. refl; sets = sets; affiliations = λ a k. refl; roles = λ role k. refl }

  owner_quiet : IsQuiet (owner room who st)
  owner_quiet = all_quiet (owner room who st) (owner_rows room who st One each) where
    each : Owns room who st One
    each = record {
      refusal = λ c k. refl;
      result = λ k. refl;
      form = λ k. refl;
      configured = λ fields right k. refl;
      unlocked = λ k. refl;
      destroyed = λ reason is k. refl;
      gone = λ k. refl;
    }

  sent_quiet : (rest : List ℕ) (hs : List Here) → AllByRecursion One (copies rest hs)
  sent_quiet rest [] = tt
  sent_quiet rest (h ∷ hs) = ((λ k. refl), sent_quiet rest hs)

  invite_quiet : (hs : List Here) → IsQuiet (invite room who st hs)
  invite_quiet hs = all_quiet (invite room who st hs) (invite_rows room who st hs One Any Any each (any_all room.occupants)) where
    each : Calls room who st hs One Any Any
    each = record { refusal = λ c k. refl; sets = sets; invited = λ i is. sent_quiet _ hs; declined = λ i is. sent_quiet _ hs }

enter_quiet : (room : Option Room) (s : ℕ) (rooms : Rooms) (who : Here) (st : Stanza) (past : List Delayed)
    → IsQuiet (enter room (numbers_for rooms s) who st past)
enter_quiet room s rooms who st past =
    all_quiet (enter room (numbers_for rooms s) who st past)
    (enter_rows room (numbers_for rooms s) who st past One Any Any Any (λ e at. each e) (by room) (λ to e at. tt) (any_all past)) where
      each : (e : Element) → Enters who st e One Any Any Any
      each e = record {
        refusal = λ c k. refl;
        occupants = λ room is. any_all room.occupants;
        made = λ room is k. refl;
        opening = λ room stay role o is fits k. refl;
        enter = λ room to nick role at named k. refl;
        shown = λ room k. refl;
        item = λ room made to nick holder is at named k. refl;
        past = λ room stay d is fits k. refl;
        subject = λ room stay is k. refl;
      }

      by : (room : Option Room) → IfSome room Any
      by None = tt
      by (Some room) = tt

-- the rows for rooms

called_quiet : (o : Scene) (who : Here) (st : Stanza) (e : Element) (h : Hosted)
    → IsQuiet (if is_invitation e then invite h.room who st (called o.domain o.world e) else refused who st BadRequest)
called_quiet o who st e h =
    quiet_either (is_invitation e) _ _ (invite_quiet h.room who st (called o.domain o.world e)) (quiet_refused who st BadRequest)

pub to_all_quiet : (o : Scene) (who : Here) (st : Stanza) (form : MessageForm) (e : Element) (found : Option Hosted) → IsQuiet (to_all_in o who st form e found)
to_all_quiet o who st form e None = quiet_refused who st (to_no_room form e)
to_all_quiet o who st message.Groupchat e (Some h) = say_quiet h.room who st (keeping_in o.world.archives h o.moment) (stamp_text o.moment)
to_all_quiet o who st message.Chat e (Some h) = called_quiet o who st e h
to_all_quiet o who st message.Normal e (Some h) = called_quiet o who st e h
to_all_quiet o who st message.Headline e (Some h) = called_quiet o who st e h
to_all_quiet o who st message.Error e (Some h) = called_quiet o who st e h

pub to_one_quiet : (who : Here) (st : Stanza) (found : Option Hosted) → IsQuiet (to_one_in who st found)
to_one_quiet who st None = quiet_refused who st ItemNotFound
to_one_quiet who st (Some h) = direct_quiet h.room who st

asked_quiet : (who : Here) (st : Stanza) (found : Option Hosted) → IsQuiet (asked_of who st found)
asked_quiet who st None = quiet_either (asks_a_room st) _ _ (quiet_refused who st ItemNotFound) (quiet_refused who st ServiceUnavailable)
asked_quiet who st (Some h) =
    quiet_either (queries admin_space st) _ _ (admin_quiet h.room who st)
    (quiet_either (queries owner_space st) _ _ (owner_quiet h.room who st) (quiet_refused who st ServiceUnavailable))

paged_quiet : (who : Here) (st : Stanza) (from : Option Address) (rows : List Row) (query : Result Query QueryFault)
    → IsQuiet (paged who st from rows query)
paged_quiet who st from rows (Ok q) =
    quiet_either (is_known rows (asked_id q.ask.after q.ask.before)) _ _
    (quiet_both (map (shown_to who from q.queryid) (shown rows q.filter q.ask)) _
    (quiet_map (shown_to who from q.queryid) (λ row k. refl) (shown rows q.filter q.ask)) (λ k. refl))
    (quiet_refused who st ItemNotFound)
paged_quiet who st from rows (Err fault.NotImplemented) = quiet_refused who st FeatureNotImplemented
paged_quiet who st from rows (Err fault.BadRequest) = quiet_refused who st BadRequest
paged_quiet who st from rows (Err fault.NoMemory) = quiet_refused who st BadRequest

queried_quiet : (who : Here) (st : Stanza) (from : Option Address) (rows : List Row) (query : Option Element)
    → IsQuiet (queried who st from rows query)
queried_quiet who st from rows None = quiet_refused who st BadRequest
queried_quiet who st from rows (Some query) = paged_quiet who st from rows (query_of query)

pub archive_quiet : (may : Bool) (who : Here) (st : Stanza) (from : Option Address) (rows : List Row) → IsQuiet (asked may who st from rows)
archive_quiet may who st from rows =
    quiet_either (gets mam_space (codes "query") st) _ _ (λ k. refl)
    (quiet_either may _ _ (queried_quiet who st from rows (query_in st)) (quiet_refused who st Forbidden))

archived_quiet : (a : Archives) (who : Here) (st : Stanza) (found : Option Hosted) → IsQuiet (archived a who st found)
archived_quiet a who st None = quiet_refused who st ItemNotFound
archived_quiet a who st (Some h) = archive_quiet (may_read h who) who st (Some h.room.address) (rows_in a h).kept

pub room_quiet : (world : World KeptTraffic) (who : Here) (st : Stanza) (place : Place) (found : Option Hosted)
    → IsQuiet (to_room world who st place found)
room_quiet world who st place found =
    quiet_either (discovers st) _ _ (λ k. refl)
    (quiet_either (pings st) _ _ (λ k. refl)
    (quiet_either (queries mam_space st) _ _ (archived_quiet world.archives who st found) (asked_quiet who st found)))

left_quiet : (s : ℕ) (st : Option Stanza) (hs : List Hosted) → IsQuiet (flat_map (λ h. leave h.room s st) hs)
left_quiet s st [] = λ k. refl
left_quiet s st (h ∷ hs) = quiet_both (leave h.room s st) (flat_map (λ x. leave x.room s st) hs) (leave_quiet h.room s st) (left_quiet s st hs)

pub rooms_left_quiet : (rooms : Rooms) (s : ℕ) (st : Option Stanza) → IsQuiet (leaves_rooms rooms s st)
rooms_left_quiet rooms s st = left_quiet s st (rooms_of s rooms)

present_quiet : (world : World KeptTraffic) (who : Here) (st : Stanza) (found : Option Hosted) → IsQuiet (present_in world who st found)
present_quiet world who st None = enter_quiet None who.session world.rooms who st []
present_quiet world who st (Some h) =
    quiet_either (is_in who.session h) _ _ (rename_quiet h.room who st)
    (enter_quiet (Some h.room) who.session world.rooms who st (past_in world.archives h))

absent_quiet : (who : Here) (st : Stanza) (found : Option Hosted) → IsQuiet (absent_from who st found)
absent_quiet who st None = λ k. refl
absent_quiet who st (Some h) = leave_quiet h.room who.session (Some st)

pub in_room_quiet : (world : World KeptTraffic) (who : Here) (st : Stanza) (form : PresenceForm) (found : Option Hosted)
    → IsQuiet (to_be_in world who st form found)
in_room_quiet world who st Available found = present_quiet world who st found
in_room_quiet world who st Unavailable found = absent_quiet who st found
in_room_quiet world who st Subscribe found = λ k. refl
in_room_quiet world who st Subscribed found = λ k. refl
in_room_quiet world who st Unsubscribe found = λ k. refl
in_room_quiet world who st Unsubscribed found = λ k. refl
in_room_quiet world who st Probe found = λ k. refl
in_room_quiet world who st Error found = λ k. refl

-- what is cast

copies_quiet : (h : Hosted) (item : RoomItem) (os : List Occupant) → IsQuiet (flat_map (copies_for h item) os)
copies_quiet h item [] = λ k. refl
copies_quiet h item (o ∷ os) =
    quiet_both (copies_for h item o) (flat_map (copies_for h item) os) (quiet_map (copy_for h item o) (λ x k. refl) o.seats) (copies_quiet h item os)

copies_in_quiet : (found : Option Hosted) (item : RoomItem) → IsQuiet (copies_in found item)
copies_in_quiet None item = λ k. refl
copies_in_quiet (Some h) item = copies_quiet h item h.room.occupants

heard_quiet : (rooms : Rooms) (e : Effect) → IsQuiet (heard rooms e)
heard_quiet rooms (Broadcast n item) = copies_in_quiet (hosted_as n rooms) item
heard_quiet rooms (Queue s to rest origin) = λ k. refl
heard_quiet rooms (Enter n s address nick role) = λ k. refl
heard_quiet rooms (Leave n s) = λ k. refl
heard_quiet rooms (Keep user peer text moment) = λ k. refl
heard_quiet rooms (Set c) = λ k. refl

-- one effect, and then others
one_noted : (e : Effect) (xs ys : List Effect) → ((k : Book) → noted_all xs k ≡ noted_all ys k) → (k : Book) → noted_all (e ∷ xs) k ≡ noted_all (e ∷ ys) k
one_noted (Set c) xs ys same k = same (noted c k)
one_noted (Queue s to rest origin) xs ys same k = same k
one_noted (Broadcast n item) xs ys same k = same k
one_noted (Enter n s address nick role) xs ys same k = same k
one_noted (Leave n s) xs ys same k = same k
one_noted (Keep user peer text moment) xs ys same k = same k

pub cast_noted : (es : List Effect) (rooms : Rooms) (k : Book) → noted_all (cast rooms es) k ≡ noted_all es k
cast_noted [] rooms k = refl
cast_noted (e ∷ es) rooms k =
    noted_then (heard rooms e) (e ∷ cast (step e rooms) es) k
    ∙ (ap (noted_all (e ∷ cast (step e rooms) es)) (heard_quiet rooms e k)
    ∙ one_noted e (cast (step e rooms) es) es (cast_noted es (step e rooms)) k)
