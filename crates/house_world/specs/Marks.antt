-- What effects set of sessions, of users, or of rooms.
use Rattle.std.specs.Prelude.{ℕ, pos, Bool, true, false, not, ◌||◌, Option, Some, None, is_some}
use Rattle.stanza_model.specs.declared.effect.Change.{Change}
use Rattle.stanza_model.specs.declared.effect.Change.TheVariants.{WantsRoster, Pushed, Available, Unavailable, Directed}
use Rattle.stanza_model.specs.declared.effect.Change.TheVariants.{Contact, NoContact, Sees, Asked, RoomRow}
use Rattle.session_table.specs.Sessions.{OwnRecord}

-- the number of the session that a change is of; some are of no session, but of what is kept of users, or of rooms
abbrev pub named_by : Change → Option ℕ
named_by (WantsRoster s) = Some s
named_by (Pushed s pushes) = Some s
named_by (Available s stanza priority) = Some s
named_by (Unavailable s) = Some s
named_by (Directed s addresses) = Some s
named_by change = None

-- what a change makes of what its session's owner has
abbrev pub set_by : Change → OwnRecord → OwnRecord
set_by (WantsRoster s) own = record own { wants_roster = true }
set_by (Pushed s pushes) own = record own { pushes = pushes }
set_by (Available s stanza priority) own = record own { presence = Some stanza; priority = priority }
set_by (Unavailable s) own = record own { presence = None; priority = pos 0 }
set_by (Directed s addresses) own = record own { directed = addresses }
set_by change own = own

-- whether a change is of what is kept of users
abbrev pub is_of_users : Change → Bool
is_of_users (Contact user address name groups) = true
is_of_users (NoContact user address) = true
is_of_users (Sees a b on) = true
is_of_users (Asked a b on) = true
is_of_users change = false

-- whether it is a message that is kept for a room
abbrev pub is_of_archives : Change → Bool
is_of_archives (RoomRow n peer text moment) = true
is_of_archives change = false

-- all others are of rooms
abbrev pub is_of_rooms : Change → Bool
is_of_rooms change = not (is_some (named_by change) || is_of_users change || is_of_archives change)
