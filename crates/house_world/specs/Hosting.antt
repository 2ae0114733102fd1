-- Effects as they are carried out: one by one on lines, sessions and users, and on the rooms all at once.
use Rattle.std.specs.Prelude.{◌≡◌, ℕ, ◌+◌, ◌≤◌, ◌*◌, ◌^◌, Bool, true, false, List, [], ◌∷◌, ◌++◌, unwrap_or, if◌then◌else◌}
use Rattle.stanza_model.specs.declared.effect.Change.TheVariants.{RoomGone, RoomRow}
use Rattle.stanza_model.specs.declared.effect.Effect as stanza
use Rattle.stanza_model.specs.declared.effect.Effect.TheVariants.{Queue, Broadcast, Enter, Leave, Keep, Set}
use Rattle.archive_table.specs.Archives.{Archives, filed}
use Rattle.archive_table.specs.declared.filing.Filing.TheVariants.{OfUser, OfRoom, NoRoom}
use Rattle.muc_service.specs.Casting.{after, cast}
use Rattle.muc_service.specs.Changing.{most_items}
use Rattle.muc_service.specs.Rooms.{Rooms}
use Rattle.house_model.specs.Archiving.{HaveFewRows}
use Rattle.house_model.specs.Effects.{Effect, Files}
use Rattle.house_model.specs.Fitting.{AreNumbered, AreShortArchives, AreShortRooms}
use Rattle.house_model.specs.Steps.{effect_of}
use Rattle.muc_service.specs.Numbering.{Numbered}
use Rattle.house_world.specs.declared.casting.Cast.{Cast}
use Rattle.house_world.specs.Marks.{is_of_rooms}

-- whether an effect is one of rooms, which leaves lines, sessions and users as they are
abbrev pub touches : stanza.Effect → Bool
touches (Queue s to rest origin) = false
touches (Broadcast n item) = true
touches (Enter n s address nick role) = true
touches (Leave n s) = true
touches (Keep user peer text moment) = false
touches (Set c) = is_of_rooms c

-- what effects do but for the rooms

-- a room that is there no more takes its archive with it
abbrev pub files_of : stanza.Effect → List Effect
files_of (Set (RoomGone n)) = Files (NoRoom n) ∷ []
files_of e = []

abbrev pub but_rooms_of : stanza.Effect → List Effect
but_rooms_of e = if touches e then files_of e else effect_of e ∷ []

abbrev pub but_rooms : List stanza.Effect → List Effect
but_rooms [] = []
but_rooms (e ∷ more) = but_rooms_of e ++ but_rooms more

-- effects as they are queued, and the rooms after them: where none are given, they stay as they are
pub record IsCast (es : List stanza.Effect) (rooms : Rooms) (c : Cast) : Type 0 where
  pub effects : c.effects.items ≡ cast rooms es
  pub put : unwrap_or c.rooms rooms ≡ after rooms c.effects.items

-- rooms after so many turns: their numbers are counted, and differ, and what is kept of them is short
pub record AreHosted (turns : ℕ) (rooms : Rooms) : Type 0 where
  pub made : rooms.made ≤ turns
  pub stays : rooms.stays ≤ turns
  pub items : most_items rooms.hosted ≤ turns * 2 ^ 64
  pub numbered : Numbered rooms
  pub short : AreShortRooms rooms

-- what one turn makes of them
abbrev pub Hosts : (old new : Rooms) → Type 0
Hosts old new = (turns : ℕ) → AreHosted turns old → AreHosted (turns + 1) new

-- what effects make of the archives

abbrev pub filed_by : stanza.Effect → Archives → Archives
filed_by (Keep user peer text moment) a = filed (OfUser user peer text moment) a
filed_by (Set (RoomRow n peer text moment)) a = filed (OfRoom n peer text moment) a
filed_by (Set (RoomGone n)) a = filed (NoRoom n) a
filed_by e a = a

abbrev pub filed_all : List stanza.Effect → Archives → Archives
filed_all [] a = a
filed_all (e ∷ more) a = filed_all more (filed_by e a)

-- archives after so many turns: their rows are counted, and have the numbers that were given, and what is kept is short
pub record AreArchived (turns : ℕ) (a : Archives) : Type 0 where
  pub rows : HaveFewRows turns a
  pub numbered : AreNumbered a
  pub short : AreShortArchives a

-- what one turn makes of them
abbrev pub Archived : (old new : Archives) → Type 0
Archived old new = (turns : ℕ) → AreArchived turns old → AreArchived (turns + 1) new
