-- Leaving a room (XEP-0045, 7.14).
use Rattle.std.specs.Prelude.{ℕ, nat_le, List, [], ◌∷◌, ◌++◌, length, Bool, true, not, ◌&&◌, Option, Some, None, if◌then◌else◌}
use Rattle.jid_core.specs.Addresses.{Address, address_text}
use Rattle.stanza_tree.specs.declared.frame.Origin.TheVariants.{Direct}
use Rattle.stanza_model.specs.declared.effect.Change.TheVariants.{RoomGone}
use Rattle.stanza_model.specs.declared.effect.Effect.{Effect}
use Rattle.stanza_model.specs.declared.effect.Effect.TheVariants as effect
use Rattle.stanza_model.specs.declared.kinds.PresenceForm.TheVariants.{Unavailable}
use Rattle.stanza_model.specs.declared.room.Occupant.{Occupant}
use Rattle.stanza_model.specs.declared.room.Role.TheVariants.{Nobody}
use Rattle.stanza_model.specs.declared.room.Room.{Room}
use Rattle.stanza_model.specs.declared.room.RoomItem.{RoomItem}
use Rattle.stanza_model.specs.declared.room.RoomItem.TheVariants as item
use Rattle.stanza_model.specs.declared.stanza.Stanza.{Stanza}
use Rattle.stanza_model.specs.declared.stanza.Stanza.TheVariants.{Presence}
use Rattle.muc_room.specs.Seats.{address_by, occupant_of, seat_of}
use Rattle.muc_room.specs.Views.{seen, shown_children}

-- the children of the presence by which it leaves that others are shown; none where the server speaks for it
abbrev pub last_words : Option Stanza → List ℕ
last_words (Some (Presence to Unavailable e)) = shown_children e.children
last_words st = []

abbrev pub seat_address : Room → ℕ → Occupant → Address
seat_address room session o = address_by room.address (seat_of session o.seats)

-- its unavailable presence: it has no role any more
abbrev pub farewell : Room → ℕ → Occupant → (children : List ℕ) → RoomItem
farewell room session o children =
    item.Presence (session ∷ []) o.nick (seat_address room session o) o.affiliation Nobody true None children [] (110 ∷ [])

-- XEP-0045, 10.1.2: a room that isn't persistent goes with its last occupant
abbrev pub goes : Room → Bool
goes room = not room.config.persistent && nat_le (length room.occupants) 1

abbrev pub gone_if_empty : Room → List Effect
gone_if_empty room = if goes room then effect.Set (RoomGone room.number) ∷ [] else []

-- the only session that has the nick
abbrev pub occupant_leaves : Room → ℕ → Occupant → (children : List ℕ) → List Effect
occupant_leaves room session o children =
    effect.Broadcast room.number (farewell room session o children) ∷ effect.Leave room.number session ∷ gone_if_empty room

-- one of several: the others don't see that it leaves, and it alone is told
abbrev pub seat_leaves : Room → ℕ → Occupant → (children : List ℕ) → List Effect
seat_leaves room session o children =
    effect.Queue session (address_text (seat_address room session o))
    (seen (farewell room session o children) true room.address session (seat_address room session o)) Direct
    ∷ effect.Leave room.number session ∷ []

abbrev pub leaves_as : Room → ℕ → Option Occupant → (children : List ℕ) → List Effect
leaves_as room session None children = []
leaves_as room session (Some o) children =
    if nat_le (length o.seats) 1 then occupant_leaves room session o children else seat_leaves room session o children

abbrev pub leave : Room → ℕ → Option Stanza → List Effect
leave room session st = leaves_as room session (occupant_of session room.occupants) (last_words st)
