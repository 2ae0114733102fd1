-- What comes of a stanza for the queues of the house's sessions: who gets which entry, by the tables of routing (RFC 6120, 8.3 and 10; RFC 6121, 8.5).
use Rattle.std.specs.Prelude.{◌≡◌, ◌⊎◌, ℕ, ◌+◌, ◌==◌, ◌&&◌, ◌||◌, List, [], ◌∷◌, ◌++◌, length, map, Bool, true, false}
use Rattle.std.specs.Prelude.{Option, Some, None, if◌then◌else◌}
use Rattle.jid_core.specs.Addresses.{Address, address_text, bare}
use Rattle.stanza_tree.specs.Spelling.{text}
use Rattle.stanza_tree.specs.Stamps.{sent_by}
use Rattle.stanza_tree.specs.declared.frame.Entry.{Entry}
use Rattle.stanza_tree.specs.declared.frame.Origin.TheVariants.{Direct}
use Rattle.stanza_tree.specs.declared.node.Element.{Element}
use Rattle.stanza_model.specs.Ids.{told_with_id, without_ids}
use Rattle.stanza_model.specs.Replies.{error_of, may_be_answered, refused}
use Rattle.stanza_model.specs.declared.condition.Condition.{Condition}
use Rattle.stanza_model.specs.declared.condition.Condition.TheVariants.{RemoteServerNotFound, ResourceConstraint, ServiceUnavailable}
use Rattle.stanza_model.specs.declared.effect.Effect as stanza
use Rattle.stanza_model.specs.declared.here.Here.{Here}
use Rattle.stanza_model.specs.declared.kinds.MessageForm.{MessageForm}
use Rattle.stanza_model.specs.declared.kinds.MessageForm.TheVariants.{Chat, Groupchat}
use Rattle.stanza_model.specs.declared.stanza.Stanza.{Stanza}
use Rattle.stanza_model.specs.declared.stanza.Stanza.TheVariants.{Message}
use Rattle.stanza_router.specs.Messages.{is_kept, is_reached, is_too_much, route_of, to_user}
use Rattle.stanza_router.specs.Places.{place_of}
use Rattle.stanza_router.specs.declared.places.Place.{Place}
use Rattle.stanza_router.specs.declared.places.Place.TheVariants.{Foreign}
use Rattle.archive_table.specs.Archives.{Archives}
use Rattle.sm_queue.specs.Queues.{has_room}
use Rattle.sm_resume.specs.declared.decision.Cause.TheVariants.{Overfull}
use Rattle.session_table.specs.declared.line.Line.TheVariants.{Bound}
use Rattle.muc_service.specs.Casting.{cast}
use Rattle.house_model.specs.declared.event.Event.TheVariants as event
use Rattle.house_model.specs.declared.reply.Reply.TheVariants as reply
use Rattle.house_model.specs.ArchiveLookups.{keeping_for, rows_by}
use Rattle.house_model.specs.Sessions.{Ended, Session}
use Rattle.house_model.specs.Traffic.{Traffic, waiting}
use Rattle.house_model.specs.States.{State, keep, keep_world}
use Rattle.house_model.specs.Effects.{Effect}
use Rattle.house_model.specs.Lookups.{here}
use Rattle.house_model.specs.Routing.{live_for, user_in, receivers, has_account, effects}
use Rattle.house_model.specs.Steps.{effect_of, turn}
use Rattle.house_model.specs.Histories.{step}
use Rattle.house_model.specs.Stays.{takes_entries}
use Rattle.house_model.specs.Queueing.{entry_for}

-- What a session gets.

-- the entries that a list of effects has for session r
abbrev pub entries_for : ℕ → List Effect → List Entry
entries_for r [] = []
entries_for r (e ∷ more) = entry_for r e ++ entries_for r more

-- Of these entries a session took those before one for which its queue had no room, and is over for it, with its two numbers.
pub record IsOverfull (before after : Session Traffic) (entries : List Entry) : Type 0 where
  pub took : List Entry
  pub refused : Entry
  pub more : List Entry
  pub are : entries ≡ took ++ refused ∷ more
  pub queued : after.traffic.queued ≡ before.traffic.queued ++ took
  pub full : has_room (waiting after.traffic) refused ≡ false
  pub over : after.hold ≡ Ended (Overfull after.traffic.kept (length after.traffic.queued))

-- These entries are the next of its queue, and nothing else is queued, or it is over, since there was no room for one of them.
abbrev pub Gets : Session Traffic → Session Traffic → List Entry → Type 0
Gets before after entries = (after.traffic.queued ≡ before.traffic.queued ++ entries) ⊎ IsOverfull before after entries

-- A stanza that is acted on.

abbrev pub address_at : State → ℕ → Address
address_at st s = (st.world.sessions s).rest.address

-- session s, of user `own`, sends on line w: the line holds it
pub record Sends (st : State) (w s : ℕ) (own : List ℕ) : Type 0 where
  pub conn : ℕ
  pub held : (st.world.lines w).stage ≡ Bound conn s
  pub user : (address_at st s).local ≡ Some own

-- by an Act of a stanza session r gets these entries
abbrev pub GetsBy : State → ℕ → Stanza → ℕ → ℕ → List Entry → Type 0
GetsBy st w x t r entries = Gets (st.world.sessions r) ((step st (event.Act w x t)).state.world.sessions r) entries

-- the effects of the stanza
abbrev pub effects_of_act : State → (w s : ℕ) → Stanza → (t : ℕ) → List stanza.Effect
effects_of_act st w s x t = effects (keep (turn (event.Act w x t) st)) s x

-- a session as the rules on stanzas see it
abbrev pub seen_as : State → ℕ → Here
seen_as st s = here (keep_world st.world) s

-- A message, by the tables of specs/Routing and of Messages of stanza_router.

abbrev pub place_for : State → (own : List ℕ) → Option Address → Place
place_for st own to = place_of own st.head.domain.domain to

-- whom a message of a session of user `own` finds
abbrev pub found_for : State → (own : List ℕ) → Option Address → MessageForm → List Here
found_for st own to form =
    receivers (keep_world st.world) form (place_for st own to) (user_in own (place_for st own to))
    (live_for (keep_world st.world) (place_for st own to) to)

-- What is done with it is what is done with one of this other form to a user that has an account: Chat is delivered, Groupchat is answered by
-- `service-unavailable`, and Error is dropped.
abbrev pub IsRoutedAs : MessageForm → State → (own : List ℕ) → Option Address → MessageForm → Type 0
IsRoutedAs other st own to form =
    route_of (place_for st own to) (has_account st.head.users (user_in own (place_for st own to)) (found_for st own to form)) form
    (found_for st own to form)
    ≡ to_user other

abbrev pub is_among : ℕ → List Here → Bool
is_among r [] = false
is_among r (h ∷ more) = (r == h.session) || is_among r more

-- The addresses of this house.

abbrev pub bare_address : State → (user : List ℕ) → Address
bare_address st user = record { local = Some user; domain = st.head.domain.domain; resource = None }

abbrev pub full_address : State → (user resource : List ℕ) → Address
full_address st user resource = record { local = Some user; domain = st.head.domain.domain; resource = Some resource }

-- a user's bare address; a message without one is for the sender's own (RFC 6120, 10.3)
abbrev pub IsForUser : State → (own user : List ℕ) → Option Address → Type 0
IsForUser st own user None = own ≡ user
IsForUser st own user (Some to) = to ≡ bare_address st user

-- What is queued.

-- RFC 6121, 8.1: a message keeps its address; without one it is for the sender's bare address
abbrev pub destination : Address → Option Address → Address
destination from None = bare from
destination from (Some to) = to

-- XEP-0359, 5: it has no id in the name of the user whom it is for but, where it is kept, the one of its row in that user's archive
abbrev pub identified : Archives → (to : Address) → MessageForm → Element → Element
identified a to form e =
    if is_kept form e then told_with_id (bare to) ((rows_by a to.local).made + 1) e else without_ids (bare to) e

-- RFC 6120, 8.1.2.1: it comes from the sender's full address
abbrev pub message_from : Archives → (from : Address) → Option Address → MessageForm → Element → Entry
message_from a from to form e = record {
  to = address_text (destination from to);
  rest = text (sent_by (address_text from) (identified a (destination from to) form e));
  origin = Direct;
}

-- what session r gets of a message of session s that is delivered to it
abbrev pub message_of : State → (s : ℕ) → Option Address → MessageForm → Element → Entry
message_of st s to form e = message_from st.world.archives (address_at st s) to form e

-- it is to be kept, and there is no room for its rows
abbrev pub passes : State → (s : ℕ) → Option Address → MessageForm → Element → Bool
passes st s to form e =
    is_kept form e && is_too_much (seen_as st s) to e (keeping_for st.world.archives (seen_as st s) to st.head.moment)

-- RFC 6120, 8.3.1: the error that answers a stanza, which is for the sender's full address
abbrev pub error_for : Address → Stanza → Condition → Entry
error_for from x condition = record { to = address_text from; rest = text (error_of x condition); origin = Direct }

-- What a session's stanza does to the queues of the house.
pub record Deliveries (st : State) : Type 0 where
  -- A session that takes entries is a user's.
  pub users : (s : ℕ) → takes_entries (st.world.sessions s) ≡ true
      → (user : List ℕ) × (resource : List ℕ) × (address_at st s ≡ full_address st user resource)
  -- A stanza that a session sends is acted on, where memory is found.
  pub done : (w s t : ℕ) (own : List ℕ) (x : Stanza) → Sends st w s own → (step st (event.Act w x t)).reply ≡ reply.Done
  -- What the tables have for a session that takes entries is what it gets: all of it, in its order, and nothing else.
  pub queues : (w s t r : ℕ) (own : List ℕ) (x : Stanza) → Sends st w s own → takes_entries (st.world.sessions r) ≡ true
      → GetsBy st w x t r (entries_for r (map effect_of (cast st.world.rooms (effects_of_act st w s x t))))
  -- A message that is delivered, and for whose rows there is room, goes to each session that it finds, once, and to no other.
  pub delivered : (w s t r : ℕ) (own : List ℕ) (to : Option Address) (form : MessageForm) (e : Element)
      → Sends st w s own → IsRoutedAs Chat st own to form → passes st s to form e ≡ false → takes_entries (st.world.sessions r) ≡ true
      → GetsBy st w (Message to form e) t r (if is_among r (found_for st own to form) then message_of st s to form e ∷ [] else [])
  -- One for whose rows there is no room goes to none, and its sender gets `resource-constraint`, where it may be answered.
  pub undelivered : (w s t r : ℕ) (own : List ℕ) (to : Option Address) (form : MessageForm) (e : Element)
      → Sends st w s own → IsRoutedAs Chat st own to form → passes st s to form e ≡ true → takes_entries (st.world.sessions r) ≡ true
      → GetsBy st w (Message to form e) t r
      (if (r == s) && may_be_answered (Message to form e) then error_for (address_at st s) (Message to form e) ResourceConstraint ∷ [] else [])
  -- To the full address of a session that takes entries: this session gets it, whatever its form.
  pub to_session : (w s t r : ℕ) (own : List ℕ) (to : Address) (form : MessageForm) (e : Element)
      → Sends st w s own → passes st s (Some to) form e ≡ false → takes_entries (st.world.sessions r) ≡ true → address_at st r ≡ to
      → GetsBy st w (Message (Some to) form e) t r (message_of st s (Some to) form e ∷ [])
  -- To a user's bare address, of a form that is delivered there: each session of the user that takes entries and is available, with a priority that is
  -- not negative, gets it.
  pub to_bare : (w s t r : ℕ) (own user : List ℕ) (to : Option Address) (form : MessageForm) (e : Element)
      → Sends st w s own → IsForUser st own user to → to_user form ≡ to_user Chat → passes st s to form e ≡ false
      → takes_entries (st.world.sessions r) ≡ true → (address_at st r).local ≡ Some user → is_reached (seen_as st r) ≡ true
      → GetsBy st w (Message to form e) t r (message_of st s to form e ∷ [])
  -- To a full address that no session has that takes entries: a chat message goes to the user's sessions likewise.
  pub to_user_at : (w s t r : ℕ) (own user resource : List ℕ) (e : Element) → Sends st w s own
      → ((q : ℕ) → takes_entries (st.world.sessions q) ≡ true → address_at st q ≡ full_address st user resource → ⊥)
      → passes st s (Some (full_address st user resource)) Chat e ≡ false
      → takes_entries (st.world.sessions r) ≡ true → (address_at st r).local ≡ Some user → is_reached (seen_as st r) ≡ true
      → GetsBy st w (Message (Some (full_address st user resource)) Chat e) t r (message_of st s (Some (full_address st user resource)) Chat e ∷ [])
  -- A stanza that the tables refuse, and that may be answered: its sender gets the one error.
  pub answered : (w s t : ℕ) (own : List ℕ) (x : Stanza) (condition : Condition)
      → Sends st w s own → effects_of_act st w s x t ≡ refused (seen_as st s) x condition → may_be_answered x ≡ true
      → GetsBy st w x t s (error_for (address_at st s) x condition ∷ [])
  -- So it is with a message that is answered by `service-unavailable`,
  pub unserved : (w s t : ℕ) (own : List ℕ) (to : Option Address) (form : MessageForm) (e : Element)
      → Sends st w s own → IsRoutedAs Groupchat st own to form → may_be_answered (Message to form e) ≡ true
      → GetsBy st w (Message to form e) t s (error_for (address_at st s) (Message to form e) ServiceUnavailable ∷ [])
  -- and with one for another server.
  pub foreign : (w s t : ℕ) (own : List ℕ) (to : Option Address) (form : MessageForm) (e : Element)
      → Sends st w s own → place_for st own to ≡ Foreign → may_be_answered (Message to form e) ≡ true
      → GetsBy st w (Message to form e) t s (error_for (address_at st s) (Message to form e) RemoteServerNotFound ∷ [])
