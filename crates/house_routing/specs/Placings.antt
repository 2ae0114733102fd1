-- Where a room stands among those that a session entered.
use Rattle.std.specs.Prelude.{ℕ, ◌+◌, nat_lt, List, [], ◌∷◌, if◌then◌else◌}
use Rattle.muc_service.specs.Rooms.{Hosted}
use Rattle.house_model.specs.RoomLookups.{stay_in}

-- how many before this stay
abbrev pub place_in : (session stay : ℕ) → List Hosted → ℕ
place_in s stay [] = 0
place_in s stay (h ∷ more) = if nat_lt (stay_in s h) stay then 1 + place_in s stay more else 0
