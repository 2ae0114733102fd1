-- A broadcast as it is queued: each session that is in the room gets its view, with the item's number in the room's order (XEP-0045, 7).
use Rattle.std.specs.Prelude.{List, [], ◌∷◌, ◌++◌, map, flat_map, Option, Some, None}
use Rattle.jid_core.specs.Addresses.{address_text}
use Rattle.stanza_tree.specs.declared.frame.Origin.TheVariants.{Live}
use Rattle.stanza_model.specs.declared.effect.Effect.{Effect}
use Rattle.stanza_model.specs.declared.effect.Effect.TheVariants.{Queue, Broadcast}
use Rattle.stanza_model.specs.declared.room.Occupant.{Occupant}
use Rattle.stanza_model.specs.declared.room.RoomItem.{RoomItem}
use Rattle.stanza_model.specs.declared.room.Seat.{Seat}
use Rattle.muc_roles.specs.Roles.{sees_addresses}
use Rattle.muc_room.specs.Views.{seen}
use Rattle.muc_service.specs.Rooms.{Hosted, Rooms, hosted_as, step}

-- the view of a session
abbrev pub copy_for : Hosted → RoomItem → Occupant → Seat → Effect
copy_for h item o seat =
    Queue seat.session (address_text seat.address)
    (seen item (sees_addresses o.role h.room.config.anyone) h.room.address seat.session seat.address)
    (Live h.room.number seat.stay h.items)

abbrev pub copies_for : Hosted → RoomItem → Occupant → List Effect
copies_for h item o = map (copy_for h item o) o.seats

-- those of all occupants, in the order of entering, and of their sessions, in the order of joining
abbrev pub copies : Hosted → RoomItem → List Effect
copies h item = flat_map (copies_for h item) h.room.occupants

abbrev pub copies_in : Option Hosted → RoomItem → List Effect
copies_in None item = []
copies_in (Some h) item = copies h item

abbrev pub heard : Rooms → Effect → List Effect
heard rooms (Broadcast n item) = copies_in (hosted_as n rooms) item
heard rooms e = []

-- Before each broadcast stand the views of it, by the rooms as they are when its turn comes: the effects before it say who is in a room,
-- and in which role, and nothing that is queued does.
abbrev pub cast : Rooms → List Effect → List Effect
cast rooms [] = []
cast rooms (e ∷ more) = heard rooms e ++ e ∷ cast (step e rooms) more

abbrev pub after : Rooms → List Effect → Rooms
after rooms [] = rooms
after rooms (e ∷ more) = after (step e rooms) more
