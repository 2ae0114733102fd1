-- Stays in rooms: of a room's order a session sees a run, without a gap, from its entering on (XEP-0045, 7.2 to 7.14).
use Rattle.std.specs.Prelude.{ℕ, ◌+◌, ◌-◌, ◌==◌, ◌&&◌, ◌≡◌, ◌≤◌, ⊤, not, List, [], ◌∷◌, ◌++◌, length, take, drop, flat_map, Bool, true, false, Option}
use Rattle.std.specs.Prelude.{Some, None, if◌then◌else◌}
use Rattle.std.specs.List.{filter}
use Rattle.jid_core.specs.Addresses.{Address, address_text}
use Rattle.stanza_tree.specs.declared.frame.Entry.{Entry}
use Rattle.stanza_tree.specs.declared.frame.Origin.{Origin}
use Rattle.stanza_tree.specs.declared.frame.Origin.TheVariants.{Direct, Opening, Live}
use Rattle.stanza_model.specs.declared.effect.Change.{Change}
use Rattle.stanza_model.specs.declared.effect.Change.TheVariants.{RoomGone}
use Rattle.stanza_model.specs.declared.effect.Effect as stanza
use Rattle.stanza_model.specs.declared.effect.Effect.TheVariants.{Broadcast, Enter, Leave, Set}
use Rattle.stanza_model.specs.declared.room.Occupant.{Occupant}
use Rattle.stanza_model.specs.declared.room.RoomItem.{RoomItem}
use Rattle.muc_roles.specs.Roles.{sees_addresses}
use Rattle.muc_room.specs.Seats.{sessions_of}
use Rattle.muc_room.specs.Views.{is_among, seen}
use Rattle.muc_service.specs.Rooms.{Hosted, hosted_as}
use Rattle.house_model.specs.declared.event.Event.{Event}
use Rattle.house_model.specs.Numbered.{put}
use Rattle.house_model.specs.Sessions as sessions
use Rattle.house_model.specs.Sessions.{Hold, Session, session_step}
use Rattle.house_model.specs.Traffic.{Traffic, whole}
use Rattle.house_model.specs.States.{World, State, keep}
use Rattle.house_model.specs.Effects.{Effect, On, Hosts, apply}
use Rattle.house_model.specs.Steps.{verdict, turn}
use Rattle.house_model.specs.Histories.{Outcome, Made, Short, Turn, next}

-- an item of a room's order: what was broadcast, the sessions that saw addresses then, and the room's address
pub record Item : Type 0 where
  pub item : RoomItem
  pub seers : List ℕ
  pub room : Address

-- its text, as a session at an address sees it
abbrev pub shown_to : ℕ → Address → Item → List ℕ
shown_to s address x = seen x.item (is_among s x.seers) x.room s address

-- A stay isn't made yet; it is open, from a number of its room's order on; or it is over, and ended before a number.
pub data Stay : Type 0 where
  Unmade : Stay
  Open : (session room start : ℕ) → Stay
  Ended : (session room start end : ℕ) → Stay

-- what rooms have broadcast, and who was in them
pub record Logs : Type 0 where
  pub order : ℕ → List Item  -- of a room, by its number
  pub stays : ℕ → Stay

abbrev pub no_logs : Logs
no_logs = record { order = λ r. []; stays = λ i. Unmade }

-- a session takes entries while it is held, or is away and counts
abbrev pub takes : Bool → Hold → Bool
takes b (sessions.Held w c) = true
takes true sessions.Away = true
takes false sessions.Away = false
takes b (sessions.Ended cause) = false
takes b sessions.Gone = false

abbrev pub takes_entries : Session Traffic → Bool
takes_entries x = takes x.counts x.hold

-- an open stay ends at the present length of its room's order, where this is so of its session and its room
abbrev pub closed : (ℕ → ℕ → Bool) → (ℕ → List Item) → Stay → Stay
closed among order Unmade = Unmade
closed among order (Open s r a) = if among s r then Ended s r a (length (order r)) else Open s r a
closed among order (Ended s r a e) = Ended s r a e

abbrev pub closes : (ℕ → ℕ → Bool) → Logs → Logs
closes among logs = record logs { stays = λ i. closed among logs.order (logs.stays i) }

-- the sessions of an occupant that sees addresses
abbrev pub seers_of : Bool → Occupant → List ℕ
seers_of anyone o = if sees_addresses o.role anyone then sessions_of o else []

abbrev pub item_in : Hosted → RoomItem → Item
item_in h item = record { item = item; seers = flat_map (seers_of h.room.config.anyone) h.room.occupants; room = h.room.address }

-- the item is the next of its room's order
abbrev pub broadcasts : Option Hosted → ℕ → RoomItem → Logs → Logs
broadcasts None n item logs = logs
broadcasts (Some h) n item logs = record logs { order = put n (logs.order n ++ item_in h item ∷ []) logs.order }

-- a stay that begins; it is over at once, where its session takes no entries
abbrev pub begins : Bool → (session room start : ℕ) → Stay
begins true s r a = Open s r a
begins false s r a = Ended s r a a

-- stays in a room that is there no more are over
abbrev pub set_step : Change → Logs → Logs
set_step (RoomGone n) logs = closes (λ q r. r == n) logs
set_step change logs = logs

abbrev pub room_step : World Traffic → stanza.Effect → Logs → Logs
room_step world (Broadcast n item) logs = broadcasts (hosted_as n world.rooms) n item logs
room_step world (Enter n s address nick role) logs =
    record logs { stays = put (world.rooms.stays + 1) (begins (takes_entries (world.sessions s)) s n (length (logs.order n))) logs.stays }
room_step world (Leave n s) logs = closes (λ q r. (q == s) && (r == n)) logs
room_step world (Set change) logs = set_step change logs
room_step world e logs = logs

-- a session took entries and doesn't any more
abbrev pub stops : Session Traffic → Session Traffic → Bool
stops x y = takes_entries x && not (takes_entries y)

-- the logs after an effect on the world; with a session that stops, all its stays are over
abbrev pub log_step : World Traffic → Effect → Logs → Logs
log_step world (Hosts e) logs = room_step world e logs
log_step world (On s op) logs = closes (λ q r. (q == s) && stops (world.sessions s) (session_step whole (world.sessions s) op)) logs
log_step world e logs = logs

abbrev pub logs_through : World Traffic → List Effect → Logs → Logs
logs_through world [] logs = logs
logs_through world (e ∷ more) logs = logs_through (apply whole world e) more (log_step world e logs)

abbrev pub turn_logs : State → Event → Outcome → Logs → Logs
turn_logs st e (Made reply text) logs = logs_through st.world (verdict (keep (turn e st)) e).effects logs
turn_logs st e Short logs = logs

abbrev pub logs_from : State → List Turn → Logs → Logs
logs_from st [] logs = logs
logs_from st (x ∷ more) logs = logs_from (next st x) more (turn_logs st x.event x.outcome logs)

-- the logs of a history
abbrev pub logs_of : State → List Turn → Logs
logs_of o h = logs_from o h no_logs

-- What a session has been given of a stay.

abbrev pub is_of : ℕ → Origin → Bool
is_of i Direct = false
is_of i (Opening r j) = false
is_of i (Live r j k) = j == i

-- the entries that are items of a stay
abbrev pub live_of : ℕ → List Entry → List Entry
live_of i entries = filter (λ e. is_of i e.origin) entries

abbrev pub view_of : (room stay session : ℕ) → Address → (number : ℕ) → Item → Entry
view_of r i s address k x = record { to = address_text address; rest = shown_to s address x; origin = Live r i k }

-- the views of items, numbered from one on
abbrev pub views : (room stay session : ℕ) → Address → (number : ℕ) → List Item → List Entry
views r i s address k [] = []
views r i s address k (x ∷ xs) = view_of r i s address k x ∷ views r i s address (k + 1) xs

-- the items from one number up to, and without, another
abbrev pub between : (start end : ℕ) → List Item → List Item
between a e items = take (e - a) (drop a items)

-- another session's stay is none of this one's
abbrev pub own : ℕ → Stay → Stay
own s Unmade = Unmade
own s (Open q r a) = if q == s then Open q r a else Unmade
own s (Ended q r a e) = if q == s then Ended q r a e else Unmade

-- what a session is to see of a stay of its own: from the start to the present, or to the end
abbrev pub run : (ℕ → List Item) → (session : ℕ) → Address → (stay : ℕ) → Stay → List Entry
run order s address i Unmade = []
run order s address i (Open q r a) = views r i s address a (drop a (order r))
run order s address i (Ended q r a e) = views r i s address a (between a e (order r))

-- Each stay shows a run of its room's order, without a gap, and each entry of a stay is its session's.
abbrev pub Gapless : World Traffic → Logs → Type 0
Gapless world logs =
    (s i : ℕ)
    → live_of i (world.sessions s).traffic.queued ≡ run logs.order s (world.sessions s).rest.address i (own s (logs.stays i))

-- a stay's numbers lie within its room's order
abbrev pub IsWithin : (ℕ → List Item) → Stay → Type 0
IsWithin order Unmade = ⊤
IsWithin order (Open q r a) = a ≤ length (order r)
IsWithin order (Ended q r a e) = (a ≤ e) × (e ≤ length (order r))
