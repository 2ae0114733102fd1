-- What the effects of a stanza name of the rooms is there, each when its turn comes.
use Rattle.std.specs.Prelude.{ℕ, ◌+◌, ◌≡◌, List, [], ◌∷◌, Bool, true, false, Option, Some, None, is_some, ⊤}
use Rattle.stanza_model.specs.declared.effect.Change.{Change}
use Rattle.stanza_model.specs.declared.effect.Change.TheVariants.{RoomMade, RoomGone, Unlocked, Configured, Affiliated, RoleSet, Renamed}
use Rattle.stanza_model.specs.declared.effect.Change.TheVariants.{OccupantShown, RoomRow, Subject}
use Rattle.stanza_model.specs.declared.effect.Effect.{Effect}
use Rattle.stanza_model.specs.declared.effect.Effect.TheVariants.{Queue, Broadcast, Enter, Leave, Keep, Set}
use Rattle.muc_service.specs.Rooms.{Hosted, Rooms, hosted_as, is_in, step}

-- the room of this number is there
abbrev pub IsThere : Rooms → (n : ℕ) → Type 0
IsThere rooms n = is_some (hosted_as n rooms) ≡ true

abbrev pub has_in : (session : ℕ) → Option Hosted → Bool
has_in s None = false
has_in s (Some h) = is_in s h

-- and the session is in it
abbrev pub IsInside : Rooms → (n session : ℕ) → Type 0
IsInside rooms n s = has_in s (hosted_as n rooms) ≡ true

-- or the room is there, and the session isn't in it
abbrev pub IsOutside : Rooms → (n session : ℕ) → Type 0
IsOutside rooms n s = IsThere rooms n × (has_in s (hosted_as n rooms) ≡ false)

-- a room that is made isn't there yet, and has the next number; any other is there, with the session that is named
abbrev pub ChangeIsOf : Rooms → Change → Type 0
ChangeIsOf rooms (RoomMade n address owner) = (n ≡ rooms.made + 1) × (is_some (hosted_as n rooms) ≡ false)
ChangeIsOf rooms (RoomGone n) = IsThere rooms n
ChangeIsOf rooms (Unlocked n) = IsThere rooms n
ChangeIsOf rooms (Configured n config) = IsThere rooms n
ChangeIsOf rooms (Affiliated n address a) = IsThere rooms n
ChangeIsOf rooms (RoleSet n s role) = IsInside rooms n s
ChangeIsOf rooms (Renamed n s nick) = IsInside rooms n s
ChangeIsOf rooms (OccupantShown n s presence) = IsInside rooms n s
ChangeIsOf rooms (Subject n text stamp) = IsThere rooms n
ChangeIsOf rooms (RoomRow n peer text moment) = IsThere rooms n
ChangeIsOf rooms change = ⊤

abbrev pub IsOf : Rooms → Effect → Type 0
IsOf rooms (Queue s to rest origin) = ⊤
IsOf rooms (Broadcast n item) = IsThere rooms n
IsOf rooms (Enter n s address nick role) = IsOutside rooms n s
IsOf rooms (Leave n s) = IsInside rooms n s
IsOf rooms (Keep user peer text moment) = ⊤
IsOf rooms (Set change) = ChangeIsOf rooms change

-- each effect, by the rooms as they are when its turn comes
abbrev pub AreOf : Rooms → List Effect → Type 0
AreOf rooms [] = ⊤
AreOf rooms (e ∷ more) = IsOf rooms e × AreOf (step e rooms) more
