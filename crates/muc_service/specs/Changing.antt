-- What is set in one room, and for how many effects there are numbers left.
use Rattle.std.specs.Prelude.{ℕ, ◌+◌, ◌<◌, ◌^◌, max, List, [], ◌∷◌, length}
use Rattle.stanza_model.specs.declared.effect.Change.{Change}
use Rattle.stanza_model.specs.declared.effect.Change.TheVariants as change
use Rattle.stanza_model.specs.declared.effect.Effect.{Effect}
use Rattle.stanza_model.specs.declared.effect.Effect.TheVariants.{Enter, Set}
use Rattle.stanza_model.specs.declared.room.Room.{Room}
use Rattle.muc_room.specs.States.{set_affiliation, set_role}
use Rattle.muc_service.specs.Rooms.{Hosted, Rooms, configured, has_subject, renames, shows, unlocked}

-- What is set in one room: what `set` makes of the room that the change names. A room that is made or is gone isn't changed.
abbrev pub set_in : Change → Room → Room
set_in (change.Unlocked n) = unlocked
set_in (change.Configured n config) = configured config
set_in (change.Affiliated n address a) = set_affiliation address a
set_in (change.RoleSet n session role) = set_role session role
set_in (change.Renamed n session nick) = renames session nick
set_in (change.OccupantShown n session presence) = shows session presence
set_in (change.Subject n text stamp) = has_subject text stamp
set_in c = λ room. room

-- the most items that a room has broadcast
abbrev pub most_items : List Hosted → ℕ
most_items [] = 0
most_items (h ∷ more) = max h.items (most_items more)

-- that so many effects more can be counted: rooms and stays in 64 bits, and the items of a room in 128
pub record HasRoomFor (n : ℕ) (rooms : Rooms) : Type 0 where
  pub made : rooms.made + n < 2 ^ 64
  pub stays : rooms.stays + n < 2 ^ 64
  pub items : most_items rooms.hosted + n < 2 ^ 128

-- how many rooms effects make

abbrev pub makes : Effect → ℕ
makes (Set (change.RoomMade n address owner)) = 1
makes e = 0

abbrev pub made_by : List Effect → ℕ
made_by [] = 0
made_by (e ∷ more) = makes e + made_by more

-- how many stays begin by them

abbrev pub begins : Effect → ℕ
begins (Enter n session address nick role) = 1
begins e = 0

abbrev pub begun_by : List Effect → ℕ
begun_by [] = 0
begun_by (e ∷ more) = begins e + begun_by more

-- that there are numbers left for each of these effects, and for one more
pub record HasRoomForAll (es : List Effect) (rooms : Rooms) : Type 0 where
  pub made : rooms.made + made_by es + 1 < 2 ^ 64
  pub stays : rooms.stays + begun_by es + 1 < 2 ^ 64
  pub items : most_items rooms.hosted + length es + 1 < 2 ^ 128
