-- What is kept of messages (XEP-0313, 2): by each list of effects, and over a history.
use Rattle.std.specs.Prelude.{ℕ, ◌≡◌, ◌≤◌, ◌==◌, List, [], ◌∷◌, ◌++◌, length, bytes_eq, Bool, true, false, Option, Some, ⊤, if◌then◌else◌}
use Rattle.std.specs.List.{filter}
use Rattle.stanza_tree.specs.declared.node.Element.{Element}
use Rattle.stanza_model.specs.Stanzas.{to_in}
use Rattle.stanza_model.specs.declared.effect.Change.TheVariants.{RoomGone, RoomRow}
use Rattle.stanza_model.specs.declared.effect.Effect as stanza
use Rattle.stanza_model.specs.declared.effect.Effect.TheVariants.{Broadcast, Keep, Set}
use Rattle.stanza_model.specs.declared.here.Here.{Here}
use Rattle.stanza_model.specs.declared.kinds.MessageForm.{MessageForm}
use Rattle.stanza_model.specs.declared.room.RoomItem.{RoomItem}
use Rattle.stanza_model.specs.declared.room.RoomItem.TheVariants as item
use Rattle.stanza_model.specs.declared.stanza.Stanza.{Stanza}
use Rattle.stanza_model.specs.declared.stanza.Stanza.TheVariants.{Message}
use Rattle.stanza_router.specs.Messages.{is_kept, is_too_much, route_of, routed, row_text, rows_for}
use Rattle.stanza_router.specs.Places.{place_of}
use Rattle.stanza_router.specs.declared.places.Place.{Place}
use Rattle.archive_table.specs.Archives.{Archives, Said, archive_of}
use Rattle.archive_table.specs.declared.filing.Filing.TheVariants.{OfUser}
use Rattle.house_model.specs.declared.event.Event.{Event}
use Rattle.house_model.specs.ArchiveLookups.{keeping_for}
use Rattle.house_model.specs.Effects.{Effect, Files}
use Rattle.house_model.specs.Histories.{Outcome, Made, Short, Turn, next}
use Rattle.house_model.specs.Lookups.{here}
use Rattle.house_model.specs.RoomFits.{IsThere}
use Rattle.house_model.specs.Routing.{Scene, effects_in, has_account, live_for, receivers, user_in}
use Rattle.house_model.specs.States.{State, World, keep}
use Rattle.house_model.specs.Stays.{Item}
use Rattle.house_model.specs.Steps.{turn, verdict}
use Rattle.house_model.specs.Traffic.{Traffic}

-- In rooms.

-- what is kept of an item: a message with a body, by whom it is from
abbrev pub said_by : RoomItem → List Said
said_by (item.Message text body from moment) = if body then record { peer = from; text = text; moment = moment } ∷ [] else []
said_by item = []

-- the messages with a body that a room broadcasts
abbrev pub messages_in : (room : ℕ) → List stanza.Effect → List Said
messages_in n [] = []
messages_in n (Broadcast r item ∷ more) = if r == n then said_by item ++ messages_in n more else messages_in n more
messages_in n (e ∷ more) = messages_in n more

-- the rows that it keeps
abbrev pub rows_of_room : (room : ℕ) → List stanza.Effect → List Said
rows_of_room n [] = []
rows_of_room n (Set (RoomRow r peer text moment) ∷ more) =
    if r == n then record { peer = peer; text = text; moment = moment } ∷ rows_of_room n more else rows_of_room n more
rows_of_room n (e ∷ more) = rows_of_room n more

-- XEP-0313, 2: of a list of effects, each room keeps the messages with a body that it broadcasts, and no others
abbrev pub KeepsMessages : List stanza.Effect → Type 0
KeepsMessages es = (n : ℕ) → rows_of_room n es ≡ messages_in n es

-- Between users.

abbrev pub is_keep : stanza.Effect → Bool
is_keep (Keep user peer text moment) = true
is_keep e = false

-- a chat or normal message with a body is kept for its sender and for the user whom it is for, where there is room
abbrev pub kept_if : Bool → Scene → Here → Stanza → Element → List stanza.Effect
kept_if false o who st e = []
kept_if true o who st e =
    if is_too_much who (to_in st) e (keeping_for o.world.archives who (to_in st) o.moment) then []
    else rows_for who (to_in st) (row_text who (to_in st) e) o.moment

abbrev pub found_for : Scene → (own : List ℕ) → Stanza → MessageForm → Place → List Here
found_for o own st form place = receivers o.world form place (user_in own place) (live_for o.world place (to_in st))

-- these effects, where the message is delivered; else what is answered
abbrev pub if_delivered : Scene → (own : List ℕ) → Here → Stanza → MessageForm → Place → List stanza.Effect → List stanza.Effect
if_delivered o own who st form place es =
    routed who st es (route_of place (has_account o.users (user_in own place) (found_for o own st form place)) form (found_for o own st form place))

-- what is refused, or dropped, is not kept
abbrev pub exchanged_by : Option (List ℕ) → Scene → Here → Stanza → List stanza.Effect
exchanged_by (Some own) o who (Message to form e) =
    filter is_keep (if_delivered o own who (Message to form e) form (place_of own o.domain to) (kept_if (is_kept form e) o who (Message to form e) e))
exchanged_by own o who st = []

abbrev pub exchanged : Scene → ℕ → Stanza → List stanza.Effect
exchanged o s st = exchanged_by (here o.world s).address.local o (here o.world s) st

-- What comes of a stanza keeps what is said, and nothing else.
pub record KeepsWhatIsSaid (o : Scene) (s : ℕ) (st : Stanza) : Type 0 where
  pub rooms : KeepsMessages (effects_in o s st)
  pub users : filter is_keep (effects_in o s st) ≡ exchanged o s st

-- and nothing comes of a departure that is kept
abbrev pub is_row : stanza.Effect → Bool
is_row (Keep user peer text moment) = true
is_row (Set (RoomRow n peer text moment)) = true
is_row e = false

abbrev pub KeepsNothing : List stanza.Effect → Type 0
KeepsNothing es = filter is_row es ≡ []

-- the rows that effects keep for a user
abbrev pub rows_of_user : (user : List ℕ) → List stanza.Effect → List Said
rows_of_user user [] = []
rows_of_user user (Keep other peer text moment ∷ more) =
    if bytes_eq other user then record { peer = peer; text = text; moment = moment } ∷ rows_of_user user more else rows_of_user user more
rows_of_user user (e ∷ more) = rows_of_user user more

-- no row is kept for a room once it is there no more
abbrev pub NoRowAfter : List stanza.Effect → Type 0
NoRowAfter [] = ⊤
NoRowAfter (Set (RoomGone n) ∷ more) = (rows_of_room n more ≡ []) × NoRowAfter more
NoRowAfter (e ∷ more) = NoRowAfter more

-- A list of effects adds two rows at most, and one to each archive.
pub record AddsFew (es : List stanza.Effect) : Type 0 where
  pub all : length (filter is_row es) ≤ 2
  pub users : (user : List ℕ) → length (rows_of_user user es) ≤ 1
  pub rooms : (n : ℕ) → length (rows_of_room n es) ≤ 1
  pub ends : NoRowAfter es

-- Over a history.

-- the messages that were kept for a user, in order
abbrev pub kept_by : (user : List ℕ) → List Effect → List Said
kept_by user [] = []
kept_by user (Files (OfUser other peer text moment) ∷ more) =
    if bytes_eq other user then record { peer = peer; text = text; moment = moment } ∷ kept_by user more else kept_by user more
kept_by user (e ∷ more) = kept_by user more

abbrev pub turn_keeps : State → Event → Outcome → (user : List ℕ) → List Said
turn_keeps st e (Made reply text) user = kept_by user (verdict (keep (turn e st)) e).effects
turn_keeps st e Short user = []

abbrev pub keeps_from : State → List Turn → (user : List ℕ) → List Said
keeps_from st [] user = []
keeps_from st (x ∷ more) user = turn_keeps st x.event x.outcome user ++ keeps_from (next st x) more user

-- and those that a room broadcast
abbrev pub spoken_in : List Item → List Said
spoken_in [] = []
spoken_in (x ∷ more) = said_by x.item ++ spoken_in more

-- Each archive has the last 10,000 messages with a body: a user's those that were kept for it, and that of a room that is there those of the
-- room's order; each with its number, its peer, its text and the greatest moment up to it.
pub record AreArchives (world : World Traffic) (order : ℕ → List Item) (keeps : List ℕ → List Said) : Type 0 where
  pub users : (user : List ℕ) → world.archives.users user ≡ archive_of (keeps user)
  pub rooms : (n : ℕ) → IsThere world.rooms n → world.archives.rooms n ≡ archive_of (spoken_in (order n))

-- no archive ever had more rows than so many
pub record HaveFewRows (most : ℕ) (a : Archives) : Type 0 where
  pub users : (user : List ℕ) → (a.users user).made ≤ most
  pub rooms : (n : ℕ) → (a.rooms n).made ≤ most
