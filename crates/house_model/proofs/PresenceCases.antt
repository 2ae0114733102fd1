-- Each effect of a presence is a copy of it for a session that is found, what the server says to its sender, or what is kept of its sender.
use Rattle.std.proofs.Common.{◌≡◌, ℕ, ℤ, ◌≤◌, inl, inr, List, [], ◌∷◌, ◌++◌, map, length, Option, Some, None, Bool, true}
use Rattle.std.proofs.Common.{false, not, ◌&&◌, if◌then◌else◌, refl, sym, subst, arith, IfSome}
use Rattle.std.proofs.lemmas.Bool.{cases_lt, lt-ltb, le-ltb}
use Rattle.std.specs.List.{AllByRecursion}
use Rattle.jid_core.specs.Addresses.{Address, address_text}
use Rattle.stanza_tree.specs.Spelling.{text}
use Rattle.stanza_tree.specs.declared.frame.Origin.TheVariants.{Direct}
use Rattle.stanza_tree.specs.declared.node.Element.{Element}
use Rattle.stanza_tree.proofs.Bounds.{length-frame}
use Rattle.stanza_model.specs.Replies.{may_be_answered, one_child, result_of, error_of, said_to, refused}
use Rattle.stanza_model.specs.Stanzas.{to_in, element_in}
use Rattle.stanza_model.specs.declared.condition.Condition.{Condition}
use Rattle.stanza_model.specs.declared.condition.Condition.TheVariants.{BadRequest, NotAcceptable, ResourceConstraint}
use Rattle.stanza_model.specs.declared.effect.Change.TheVariants as change
use Rattle.stanza_model.specs.declared.effect.Effect.{Effect}
use Rattle.stanza_model.specs.declared.effect.Effect.TheVariants.{Keep, Set}
use Rattle.stanza_model.specs.declared.here.Here.{Here}
use Rattle.stanza_model.specs.declared.keeping.Keeping.{Keeping}
use Rattle.stanza_model.specs.declared.kinds.MessageForm.{MessageForm}
use Rattle.stanza_model.specs.declared.kinds.PresenceForm.{PresenceForm}
use Rattle.stanza_model.specs.declared.kinds.PresenceForm.TheVariants.{Available, Unavailable, Subscribe, Subscribed, Unsubscribe}
use Rattle.stanza_model.specs.declared.kinds.PresenceForm.TheVariants.{Unsubscribed, Probe, Error}
use Rattle.stanza_model.specs.declared.stanza.Stanza.{Stanza}
use Rattle.stanza_model.specs.declared.stanza.Stanza.TheVariants.{Presence}
use Rattle.stanza_router.specs.Discovery.{discovery}
use Rattle.stanza_router.specs.Messages.{addressed, copied, plain_text, queued_as, row_text, told_text}
use Rattle.stanza_router.specs.Places.{place_of}
use Rattle.stanza_router.specs.declared.places.Place.{Place}
use Rattle.stanza_router.specs.declared.places.Place.TheVariants.{Account, Server, User, UserAt, Service, Room, RoomAt, Foreign}
use Rattle.roster_book.specs.Requests.{roster_get}
use Rattle.presence_core.specs.Broadcasts as broadcasts
use Rattle.presence_core.specs.Broadcasts.{announced, asked_by, available, is_among, is_sent, leaves, others, seen_by, set_unavailable}
use Rattle.presence_core.specs.Broadcasts.{shown_to, told_others, told_watchers, welcome, with_priority}
use Rattle.presence_core.specs.Copies.{copies, copy_to, presence_text}
use Rattle.presence_core.specs.DirectedPresence.{delivered, directed, has_room, with_address, without_address}
use Rattle.presence_core.specs.Priorities.{priority_in}
use Rattle.muc_service.specs.Rooms.{Hosted}
use Rattle.rsm_paging.specs.declared.ask.Row.{Row}
use Rattle.archive_table.specs.Pages as pages
use Rattle.archive_table.specs.Pages.{page_of}
use Rattle.mam_wire.specs.Answers.{fin}
use Rattle.mam_wire.specs.Forms.{query_form}
use Rattle.mam_wire.specs.Queries.{is_long}
use Rattle.mam_wire.specs.declared.query.Query.{Query}
use Rattle.house_model.specs.ArchiveLookups.{keeping_for, rows_in}
use Rattle.house_model.specs.Archives as archives
use Rattle.house_model.specs.Lookups.{has_user, here}
use Rattle.house_model.specs.Presences.{asking, directed_by, in_sight, length_sent, most_of_presence, named, party, shown, shown_of, watchers}
use Rattle.house_model.specs.Routing.{Scene, between, broadcast, departure, departure_by, directed_if, error_to}
use Rattle.house_model.specs.Routing.{has_account, live_for, own_contacts, presence, presence_to, roster_changed}
use Rattle.house_model.specs.Routing.{absent_from, asked_of, leaves_rooms, present_in, to_all_in, to_be_in, to_one_in}
use Rattle.house_model.specs.Routing.{subscribed, to_address, to_user, unless_full, user_in}
use Rattle.house_model.specs.RoomLookups.{listed, room_for}
use Rattle.house_model.specs.States.{World}
use Rattle.house_model.specs.Traffic.{KeptTraffic}
use Rattle.house_model.proofs.PairCases.{Tells, subscription_all}
use Rattle.house_model.proofs.Founds.{AreFound, IsFound, IsHere, append_all, either_all, filter_all}
use Rattle.house_model.proofs.Founds.{in_sight_found, live_for_found, named_found, watchers_found}

-- an archive that a stanza may ask for: that of a user, or of the room at its address
abbrev pub IsAsked : Scene → Stanza → Option Address → List Row → Type 0
IsAsked o st None rows = (own : List ℕ) × (rows ≡ (o.world.archives.users own).kept)
IsAsked o st (Some from) rows =
    (h : Hosted) × (room_for o.world.rooms (to_in st) ≡ Some h) × (from ≡ h.room.address) × (rows ≡ (rows_in o.world.archives h).kept)

-- where a message is kept
abbrev pub keeping_of : Scene → ℕ → Stanza → Keeping
keeping_of o s st = keeping_for o.world.archives (here o.world s) (to_in st) o.moment

-- What holds of all that the server says to a stanza's sender, of the rows that it is shown, of the stanza's copies for sessions that are found,
-- of what is kept of it and of its sender, and of what a room gives out; and what holds of a list of such effects, or of those of a session that is
-- present in a room, leaves one or all that it is in, of what is said in one, and of what comes of a request to one
pub record Covers (o : Scene) (s : ℕ) (st : Stanza) (P : Effect → Type 0) (Q : List Effect → Type 0) : Type 0 where
  pub all : (es : List Effect) → AllByRecursion P es → Q es
  pub refusal : (condition : Condition) → P (said_to (here o.world s) (error_of st condition))
  pub result : P (said_to (here o.world s) (result_of st []))
  pub found : (place : Place) → P (said_to (here o.world s) (discovery place st []))
  pub told : (place : Place) → P (said_to (here o.world s) (discovery place st (listed o.world.rooms)))
  pub form : P (said_to (here o.world s) (result_of st (one_child query_form)))
  pub shown : (from : Option Address) (rows : List Row) (q : Query) → IsAsked o st from rows → is_long q.queryid ≡ false
      → AllByRecursion (λ row. P (archives.shown_to (here o.world s) from q.queryid row)) (pages.shown rows q.filter q.ask)
  pub page : (from : Option Address) (rows : List Row) (q : Query) → IsAsked o st from rows
      → P (said_to (here o.world s) (result_of st (one_child (fin (page_of rows q.filter q.ask)))))
  pub copy : (e : Element) (h : Here) → element_in st ≡ Some e → IsFound o.world h.session
      → P (copied (here o.world s) (to_in st) e h)
  pub plain : (e : Element) (r : ℕ) → element_in st ≡ Some e → IsFound o.world r
      → P (queued_as (here o.world s) (to_in st) (plain_text (here o.world s) (to_in st) e) r)
  pub numbered : (e : Element) (r : ℕ) → element_in st ≡ Some e → IsFound o.world r
      → P (queued_as (here o.world s) (to_in st) (told_text (here o.world s) (to_in st) e (keeping_of o s st).row) r)
  pub sent : (e : Element) (user : List ℕ) → element_in st ≡ Some e → (here o.world s).address.local ≡ Some user
      → P (Keep user (addressed (here o.world s) (to_in st)) (row_text (here o.world s) (to_in st) e) o.moment)
  pub received : (e : Element) (user : List ℕ) → element_in st ≡ Some e → (addressed (here o.world s) (to_in st)).local ≡ Some user
      → P (Keep user (here o.world s).address (row_text (here o.world s) (to_in st) e) o.moment)
  pub presence : (e : Element) (h : Here) → length (presence_text (here o.world s) e) ≤ 16384 → IsHere o.world h
      → P (copy_to (presence_text (here o.world s) e) h)
  pub show : (h : Here) → IsHere o.world h → P (shown_to (here o.world s) (shown_of o.world (here o.world s) h))
  pub asked : (own : List ℕ) → AllByRecursion (λ x. P (asked_by (here o.world s) x)) (asking o.domain o.world own)
  pub shows : (e : Element) (priority : ℤ) → length (presence_text (here o.world s) e) ≤ 16384
      → P (Set (change.Available s (presence_text (here o.world s) e) priority))
  pub hides : P (Set (change.Unavailable s))
  pub directs : (addresses : List Address) → P (Set (change.Directed s addresses))
  pub pairs : (own : List ℕ) (place : Place) (user : List ℕ) → (here o.world s).address.local ≡ Some own
      → place ≡ place_of own o.domain (to_in st) → user_in own place ≡ Some user
      → Tells P (party o.domain o.world own) (party o.domain o.world user)
  pub lists : (own : List ℕ) → AllByRecursion P (roster_get (own_contacts o own) (here o.world s) st)
  pub changes : (own : List ℕ) → (here o.world s).address.local ≡ Some own → AllByRecursion P (roster_changed o own (here o.world s) st)
  pub said : (form : MessageForm) (e : Element) → element_in st ≡ Some e
      → Q (to_all_in o (here o.world s) st form e (room_for o.world.rooms (to_in st)))
  pub whispered : AllByRecursion P (to_one_in (here o.world s) st (room_for o.world.rooms (to_in st)))
  pub asks : (h : Hosted) → room_for o.world.rooms (to_in st) ≡ Some h → Q (asked_of (here o.world s) st (Some h))
  pub absent : (e : Element) → element_in st ≡ Some e → length (presence_text (here o.world s) e) ≤ 16384
      → Q (absent_from (here o.world s) st (room_for o.world.rooms (to_in st)))
  pub leaves : (e : Element) → element_in st ≡ Some e → length (presence_text (here o.world s) e) ≤ 16384
      → (es : List Effect) → AllByRecursion P es → Q (es ++ leaves_rooms o.world.rooms s (Some st))
  pub present : (e : Element) → element_in st ≡ Some e → length (presence_text (here o.world s) e) ≤ 16384
      → Q (present_in o.world (here o.world s) st (room_for o.world.rooms (to_in st)))

-- Copies of a text.
pub copies_all : (world : World KeptTraffic) (P : Effect → Type 0) (rest : List ℕ) → ((h : Here) → IsHere world h → P (copy_to rest h))
    → (hs : List Here) → AreFound world hs → AllByRecursion P (copies rest hs)
copies_all world P rest each [] found = tt
copies_all world P rest each (h ∷ hs) found = (each h found.0, copies_all world P rest each hs found.1)

-- unavailable presence of a text
pub leaves_all : (world : World KeptTraffic) (P : Effect → Type 0) (departing : Option ℕ) (who : Here) (rest : List ℕ)
    → ((h : Here) → IsHere world h → P (copy_to rest h)) → P (Set (change.Unavailable who.session))
    → ((addresses : List Address) → P (Set (change.Directed who.session addresses)))
    → (ws ds : List Here) → AreFound world ws → AreFound world ds → AllByRecursion P (leaves departing who rest ws ds)
leaves_all world P departing who rest each hides directs ws ds some more =
    append_all P (told_watchers departing who rest ws ++ told_others departing who rest ws ds) (Set (change.Directed who.session []) ∷ [])
    (append_all P (told_watchers departing who rest ws) (told_others departing who rest ws ds)
    (append_all P (copies rest (others departing [] (seen_by who ws))) (set_unavailable who)
    (copies_all world P rest each _
    (filter_all (IsHere world) (λ h. is_sent departing h && not (is_among [] h)) (seen_by who ws)
    (either_all (IsHere world) who.available ws [] some tt)))
    (either_all P who.available (Set (change.Unavailable who.session) ∷ []) [] (hides, tt) tt))
    (copies_all world P rest each _
    (filter_all (IsHere world) (λ h. is_sent departing h && not (is_among (seen_by who ws) h)) ds more)))
    (directs [], tt)

-- departure
pub departure_by_all : (world : World KeptTraffic) (s : ℕ) (P : Effect → Type 0)
    → ((h : Here) → IsHere world h → P (copy_to (text (broadcasts.departure (here world s))) h)) → P (Set (change.Unavailable s))
    → ((addresses : List Address) → P (Set (change.Directed s addresses)))
    → AllByRecursion P (departure_by (here world s).address.local world (here world s))
departure_by_all world s P each hides directs = by (here world s).address.local
  where
    by : (own : Option (List ℕ)) → AllByRecursion P (departure_by own world (here world s))
    by None = tt
    by (Some own) =
        leaves_all world P (Some s) (here world s) (text (broadcasts.departure (here world s))) each hides directs
        (watchers world own (here world s)) (named world (directed_by world (here world s)))
        (watchers_found world own (here world s)) (named_found world (directed_by world (here world s)))

pub departure_all : (world : World KeptTraffic) (s : ℕ) (P : Effect → Type 0)
    → ((h : Here) → IsHere world h → P (copy_to (text (broadcasts.departure (here world s))) h)) → P (Set (change.Unavailable s))
    → ((addresses : List Address) → P (Set (change.Directed s addresses))) → AllByRecursion P (leaves_rooms world.rooms s None)
    → AllByRecursion P (departure world s)
departure_all world s P each hides directs left =
    append_all P (departure_by (here world s).address.local world (here world s)) (leaves_rooms world.rooms s None)
    (departure_by_all world s P each hides directs) left

-- What the sender's own session is told.
module _ (o : Scene) (s : ℕ) (st : Stanza) (P : Effect → Type 0) (Q : List Effect → Type 0) (all : Covers o s st P Q) where
  abbrev who : Here
  who = here o.world s

  pub refusal_all : (c : Condition) → AllByRecursion P (refused who st c)
  refusal_all c = either_all P (may_be_answered st) (said_to who (error_of st c) ∷ []) [] (all.refusal c, tt) tt

  shown_all : (hs : List Here) → AreFound o.world hs → AllByRecursion P (map (shown_to who) (map (shown_of o.world who) hs))
  shown_all [] found = tt
  shown_all (h ∷ hs) found = (all.show h found.0, shown_all hs found.1)

  asked_all : (xs : List Address) → AllByRecursion (λ x. P (asked_by who x)) xs → AllByRecursion P (map (asked_by who) xs)
  asked_all [] each = tt
  asked_all (x ∷ xs) each = (each.0, asked_all xs each.1)

  announced_all : (own : List ℕ) (e : Element) → length (presence_text who e) ≤ 16384 → (p : ℤ)
      → AllByRecursion P (announced p who e (watchers o.world own who) ++ welcome who (shown o.world own who) (asking o.domain o.world own))
  announced_all own e short p = (
    all.shows e p short,
    append_all P (copies (presence_text who e) (watchers o.world own who)) _
        (copies_all o.world P (presence_text who e) (λ h found. all.presence e h short found) (watchers o.world own who)
        (watchers_found o.world own who))
        (either_all P who.available [] _ tt
        (append_all P (map (shown_to who) (shown o.world own who)) _
        (shown_all (in_sight o.world own who) (in_sight_found o.world own who))
        (asked_all (asking o.domain o.world own) (all.asked own)))),
  )

  delivered_all : (e : Element) → length (presence_text who e) ≤ 16384 → (hs : List Here) → AreFound o.world hs → (list : List Address)
      → AllByRecursion P (delivered who e hs list)
  delivered_all e short hs found list =
      append_all P (copies (presence_text who e) hs) _
      (copies_all o.world P (presence_text who e) (λ h is. all.presence e h short is) hs found) (all.directs list, tt)

prioritized_all : (o : Scene) (s : ℕ) (e : Element) (P : Effect → Type 0) (Q : List Effect → Type 0) → Covers o s (Presence None Available e) P Q
    → (own : List ℕ)
    → length (presence_text (here o.world s) e) ≤ 16384 → (p : Option ℤ)
    → AllByRecursion P (with_priority (here o.world s) (Presence None Available e) p (λ priority.
    announced priority (here o.world s) e (watchers o.world own (here o.world s))
    ++ welcome (here o.world s) (shown o.world own (here o.world s)) (asking o.domain o.world own)))
prioritized_all o s e P Q all own short None = refusal_all o s (Presence None Available e) P Q all BadRequest
prioritized_all o s e P Q all own short (Some p) = announced_all o s (Presence None Available e) P Q all own e short p

broadcast_all : (o : Scene) (s : ℕ) (form : PresenceForm) (e : Element) (P : Effect → Type 0) (Q : List Effect → Type 0) → Covers o s (Presence None form e) P Q
    → (own : List ℕ) → length (presence_text (here o.world s) e) ≤ 16384
    → Q (broadcast o own (here o.world s) (Presence None form e) form)
broadcast_all o s Available e P Q all own short = all.all _ (prioritized_all o s e P Q all own short (priority_in e))
broadcast_all o s Unavailable e P Q all own short =
    all.leaves e refl short (leaves None (here o.world s) (presence_text (here o.world s) e) (watchers o.world own (here o.world s))
    (named o.world (directed_by o.world (here o.world s))))
    (leaves_all o.world P None (here o.world s) (presence_text (here o.world s) e) (λ h found. all.presence e h short found) all.hides
    all.directs (watchers o.world own (here o.world s)) (named o.world (directed_by o.world (here o.world s)))
    (watchers_found o.world own (here o.world s)) (named_found o.world (directed_by o.world (here o.world s))))
broadcast_all o s Subscribe e P Q all own short = all.all _ (refusal_all o s (Presence None Subscribe e) P Q all BadRequest)
broadcast_all o s Subscribed e P Q all own short = all.all _ (refusal_all o s (Presence None Subscribed e) P Q all BadRequest)
broadcast_all o s Unsubscribe e P Q all own short = all.all _ (refusal_all o s (Presence None Unsubscribe e) P Q all BadRequest)
broadcast_all o s Unsubscribed e P Q all own short = all.all _ (refusal_all o s (Presence None Unsubscribed e) P Q all BadRequest)
broadcast_all o s Probe e P Q all own short = all.all _ (refusal_all o s (Presence None Probe e) P Q all BadRequest)
broadcast_all o s Error e P Q all own short = all.all _ (refusal_all o s (Presence None Error e) P Q all BadRequest)

directed_all : (o : Scene) (s : ℕ) (to : Address) (form : PresenceForm) (e : Element) (P : Effect → Type 0) (Q : List Effect → Type 0)
    → Covers o s (Presence (Some to) form e) P Q → length (presence_text (here o.world s) e) ≤ 16384
    → (hs : List Here) → AreFound o.world hs → (list : List Address)
    → AllByRecursion P (directed (here o.world s) (Presence (Some to) form e) hs list)
directed_all o s to Available e P Q all short hs found list =
    either_all P (has_room to list) _ _
    (delivered_all o s (Presence (Some to) Available e) P Q all e short hs found (with_address to list))
    (refusal_all o s (Presence (Some to) Available e) P Q all ResourceConstraint)
directed_all o s to Unavailable e P Q all short hs found list =
    delivered_all o s (Presence (Some to) Unavailable e) P Q all e short hs found (without_address to list)
directed_all o s to Subscribe e P Q all short hs found list = tt
directed_all o s to Subscribed e P Q all short hs found list = tt
directed_all o s to Unsubscribe e P Q all short hs found list = tt
directed_all o s to Unsubscribed e P Q all short hs found list = tt
directed_all o s to Probe e P Q all short hs found list = tt
directed_all o s to Error e P Q all short hs found list = tt

directed_to_all : (o : Scene) (s : ℕ) (to : Address) (form : PresenceForm) (e : Element) (P : Effect → Type 0) (Q : List Effect → Type 0)
    → Covers o s (Presence (Some to) form e) P Q → length (presence_text (here o.world s) e) ≤ 16384
    → (known : Bool) (hs : List Here) → AreFound o.world hs
    → AllByRecursion P (directed_if known o.world (here o.world s) (Presence (Some to) form e) hs)
directed_to_all o s to form e P Q all short false hs found = tt
directed_to_all o s to form e P Q all short true hs found = directed_all o s to form e P Q all short hs found (directed_by o.world (here o.world s))

error_all : (o : Scene) (s : ℕ) (to : Address) (e : Element) (P : Effect → Type 0) (Q : List Effect → Type 0) → Covers o s (Presence (Some to) Error e) P Q
    → (live : Option ℕ) → ((r : ℕ) → live ≡ Some r → IsFound o.world r)
    → AllByRecursion P (error_to o.world (here o.world s) to e live)
error_all o s to e P Q all None found = tt
error_all o s to e P Q all (Some r) found = (all.copy e (here o.world r) refl (found r refl), tt)

-- between two users
full_all : (o : Scene) (s : ℕ) (st : Stanza) (P : Effect → Type 0) (Q : List Effect → Type 0) → Covers o s st P Q
    → (found : Option (List Effect)) → IfSome found (λ es. AllByRecursion P es) → AllByRecursion P (unless_full (here o.world s) st found)
full_all o s st P Q all None is = refusal_all o s st P Q all ResourceConstraint
full_all o s st P Q all (Some es) is = is

subscribed_all : (o : Scene) (s : ℕ) (st : Stanza) (P : Effect → Type 0) (Q : List Effect → Type 0) → Covers o s st P Q
    → (own : List ℕ) (form : PresenceForm) (user : Option (List ℕ))
    → ((x : List ℕ) → user ≡ Some x → Tells P (party o.domain o.world own) (party o.domain o.world x))
    → AllByRecursion P (subscribed o own (here o.world s) st form user)
subscribed_all o s st P Q all own form None tells = tt
subscribed_all o s st P Q all own form (Some user) tells =
    either_all P (has_user o.users user) _ []
    (full_all o s st P Q all (between o own user form)
    (subscription_all P (party o.domain o.world own) (party o.domain o.world user) (tells user refl) form)) tt

user_all : (o : Scene) (s : ℕ) (to : Address) (form : PresenceForm) (e : Element) (P : Effect → Type 0) (Q : List Effect → Type 0)
    → Covers o s (Presence (Some to) form e) P Q → (own : List ℕ) → (here o.world s).address.local ≡ Some own
    → length (presence_text (here o.world s) e) ≤ 16384 → (place : Place) → place ≡ place_of own o.domain (Some to)
    → AllByRecursion P (to_user o own (here o.world s) (Presence (Some to) form e) to form e place)
user_all o s to Available e P Q all own mine short place at =
    directed_to_all o s to Available e P Q all short (has_account o.users (user_in own place) (named o.world (to ∷ []))) (named o.world (to ∷ []))
    (named_found o.world (to ∷ []))
user_all o s to Unavailable e P Q all own mine short place at =
    directed_to_all o s to Unavailable e P Q all short (has_account o.users (user_in own place) (named o.world (to ∷ []))) (named o.world (to ∷ []))
    (named_found o.world (to ∷ []))
user_all o s to Error e P Q all own mine short place at =
    error_all o s to e P Q all (live_for o.world place (Some to)) (λ r live. live_for_found o.world place (Some to) r live)
user_all o s to Subscribe e P Q all own mine short place at =
    subscribed_all o s _ P Q all own Subscribe (user_in own place) (λ x is. all.pairs own place x mine at is)
user_all o s to Subscribed e P Q all own mine short place at =
    subscribed_all o s _ P Q all own Subscribed (user_in own place) (λ x is. all.pairs own place x mine at is)
user_all o s to Unsubscribe e P Q all own mine short place at =
    subscribed_all o s _ P Q all own Unsubscribe (user_in own place) (λ x is. all.pairs own place x mine at is)
user_all o s to Unsubscribed e P Q all own mine short place at =
    subscribed_all o s _ P Q all own Unsubscribed (user_in own place) (λ x is. all.pairs own place x mine at is)
user_all o s to Probe e P Q all own mine short place at = tt

-- in a room
in_room_all : (o : Scene) (s : ℕ) (to : Address) (form : PresenceForm) (e : Element) (P : Effect → Type 0) (Q : List Effect → Type 0)
    → Covers o s (Presence (Some to) form e) P Q → length (presence_text (here o.world s) e) ≤ 16384
    → Q (to_be_in o.world (here o.world s) (Presence (Some to) form e) form (room_for o.world.rooms (Some to)))
in_room_all o s to Available e P Q all short = all.present e refl short
in_room_all o s to Unavailable e P Q all short = all.absent e refl short
in_room_all o s to Subscribe e P Q all short = all.all [] tt
in_room_all o s to Subscribed e P Q all short = all.all [] tt
in_room_all o s to Unsubscribe e P Q all short = all.all [] tt
in_room_all o s to Unsubscribed e P Q all short = all.all [] tt
in_room_all o s to Probe e P Q all short = all.all [] tt
in_room_all o s to Error e P Q all short = all.all [] tt

address_all : (o : Scene) (s : ℕ) (to : Address) (form : PresenceForm) (e : Element) (P : Effect → Type 0) (Q : List Effect → Type 0)
    → Covers o s (Presence (Some to) form e) P Q → (own : List ℕ) → (here o.world s).address.local ≡ Some own
    → length (presence_text (here o.world s) e) ≤ 16384 → (place : Place) → place ≡ place_of own o.domain (Some to)
    → Q (to_address o own (here o.world s) (Presence (Some to) form e) to form e place)
address_all o s to form e P Q all own mine short Account at = all.all _ (user_all o s to form e P Q all own mine short Account at)
address_all o s to form e P Q all own mine short (User user) at = all.all _ (user_all o s to form e P Q all own mine short (User user) at)
address_all o s to form e P Q all own mine short (UserAt user resource) at =
    all.all _ (user_all o s to form e P Q all own mine short (UserAt user resource) at)
address_all o s to form e P Q all own mine short (Room room) at = in_room_all o s to form e P Q all short
address_all o s to form e P Q all own mine short (RoomAt room nick) at = in_room_all o s to form e P Q all short
address_all o s to form e P Q all own mine short Server at = all.all [] tt
address_all o s to form e P Q all own mine short Service at = all.all [] tt
address_all o s to form e P Q all own mine short Foreign at = all.all [] tt

-- the text without an address is no longer than with it
text_short : (who : Here) (to : Option Address) (e : Element) → length_sent who to e ≤ 16384 → length (presence_text who e) ≤ 16384
text_short who None e short = short
text_short who (Some to) e short =
    omega (arith, short, length-frame (record { to = address_text to; rest = presence_text who e; origin = Direct }))

short_all : (o : Scene) (s : ℕ) (to : Option Address) (form : PresenceForm) (e : Element) (P : Effect → Type 0) (Q : List Effect → Type 0)
    → Covers o s (Presence to form e) P Q → (own : List ℕ) (place : Place) → (here o.world s).address.local ≡ Some own
    → place ≡ place_of own o.domain to → length (presence_text (here o.world s) e) ≤ 16384
    → Q (presence_to o own (here o.world s) (Presence to form e) to form e place)
short_all o s None form e P Q all own place mine at short = broadcast_all o s form e P Q all own short
short_all o s (Some to) form e P Q all own place mine at short = address_all o s to form e P Q all own mine short place at

pub presence_all : (o : Scene) (s : ℕ) (to : Option Address) (form : PresenceForm) (e : Element) (P : Effect → Type 0) (Q : List Effect → Type 0)
    → Covers o s (Presence to form e) P Q → (own : List ℕ) (place : Place) → (here o.world s).address.local ≡ Some own
    → place ≡ place_of own o.domain to
    → Q (presence o own (here o.world s) (Presence to form e) to form e place)
presence_all o s to form e P Q all own place mine at = elim (cases_lt most_of_presence (length_sent (here o.world s) to e)) [
  | inl long ↦ is_by (sym (lt-ltb most_of_presence (length_sent (here o.world s) to e) long))
      (all.all _ (refusal_all o s (Presence to form e) P Q all NotAcceptable))
  | inr short ↦ is_by (sym (le-ltb most_of_presence (length_sent (here o.world s) to e) short))
      (short_all o s to form e P Q all own place mine at (text_short (here o.world s) to e short))
]
  where
    is_by : {a b : Bool} → a ≡ b
        → Q (if a then refused (here o.world s) (Presence to form e) NotAcceptable
        else presence_to o own (here o.world s) (Presence to form e) to form e place)
        → Q (if b then refused (here o.world s) (Presence to form e) NotAcceptable
        else presence_to o own (here o.world s) (Presence to form e) to form e place)
    is_by same is =
        subst (λ (c : Bool). Q (if c then refused (here o.world s) (Presence to form e) NotAcceptable
        else presence_to o own (here o.world s) (Presence to form e) to form e place)) same is
