-- What every list of effects of a stanza keeps to.
use Rattle.std.specs.Prelude.{◌≡◌, ℕ, ◌-◌, ◌<◌, ◌≤◌, ◌^◌, List, [], ◌∷◌, map, length, sum, IfSome, ⊤}
use Rattle.std.specs.List.{AllByRecursion}
use Rattle.jid_core.specs.Addresses.{Address, address_text}
use Rattle.stanza_tree.specs.Entries.{frame}
use Rattle.stanza_model.specs.RosterLimits.{counted, most_text}
use Rattle.stanza_model.specs.declared.effect.Effect.{Effect}
use Rattle.stanza_model.specs.declared.effect.Effect.TheVariants.{Queue, Broadcast, Enter, Leave, Keep, Set}
use Rattle.stanza_model.specs.declared.effect.Change.{Change}
use Rattle.stanza_model.specs.declared.effect.Change.TheVariants.{WantsRoster, Pushed, Available, Unavailable, Directed}
use Rattle.stanza_model.specs.declared.effect.Change.TheVariants.{RoleSet, Renamed, OccupantShown, RoomRow}
use Rattle.stanza_model.specs.declared.room.Occupant.{Occupant}
use Rattle.stanza_model.specs.declared.room.Room.{Room}
use Rattle.stanza_model.specs.declared.room.Seat.{Seat}
use Rattle.rsm_paging.specs.declared.ask.Row.{Row}
use Rattle.archive_table.specs.Archives.{Archives, Rows, most_bytes}
use Rattle.muc_admin.specs.Listings as admin
use Rattle.muc_service.specs.Rooms.{Hosted, Rooms}
use Rattle.house_model.specs.Archiving.{HaveFewRows}
use Rattle.house_model.specs.Presences.{asking}
use Rattle.house_model.specs.Routing.{Scene, own_contacts}
use Rattle.house_model.specs.Sessions.{Gone}
use Rattle.house_model.specs.Traffic.{KeptTraffic, Traffic, whole}
use Rattle.house_model.specs.States.{World}
use Rattle.house_model.specs.Effects.{apply}
use Rattle.house_model.specs.Steps.{effect_of}

-- a session of this number was made, and is not gone
pub record IsInHouse (s : ℕ) (world : World Traffic) : Type 0 where
  pub above : 0 < s
  pub made : s ≤ world.made
  pub stays : (world.sessions s).hold ≡ Gone → ⊥

-- each session that a change names is in the house
abbrev pub ChangeFits : World Traffic → Change → Type 0
ChangeFits world (WantsRoster s) = IsInHouse s world
ChangeFits world (Pushed s pushes) = IsInHouse s world
ChangeFits world (Available s stanza priority) = IsInHouse s world
ChangeFits world (Unavailable s) = IsInHouse s world
ChangeFits world (Directed s addresses) = IsInHouse s world
ChangeFits world (RoleSet n s role) = IsInHouse s world
ChangeFits world (Renamed n s nick) = IsInHouse s world
ChangeFits world (OccupantShown n s presence) = IsInHouse s world
ChangeFits world change = ⊤

-- each session that an effect names is in the house
abbrev pub EffectFits : World Traffic → Effect → Type 0
EffectFits world (Queue s to rest origin) = IsInHouse s world
EffectFits world (Broadcast n item) = ⊤
EffectFits world (Enter n s address nick role) = IsInHouse s world
EffectFits world (Leave n s) = IsInHouse s world
EffectFits world (Keep user peer text moment) = ⊤
EffectFits world (Set c) = ChangeFits world c

-- each effect, in the state in which its turn comes
abbrev pub AllFit : World Traffic → List Effect → Type 0
AllFit world [] = ⊤
AllFit world (e ∷ more) = EffectFits world e × AllFit (apply whole world (effect_of e)) more

-- what is queued has at most so many bytes as a frame, and a presence that is kept so many, and so many a message that is kept
abbrev pub IsSmall : Effect → Type 0
IsSmall (Set (Available s stanza priority)) = length stanza ≤ 16384
IsSmall (Set (RoomRow n peer text moment)) = length text ≤ 300000
IsSmall (Set c) = ⊤
IsSmall (Broadcast n item) = ⊤
IsSmall (Enter n s address nick role) = ⊤
IsSmall (Leave n s) = ⊤
IsSmall (Keep user peer text moment) = length text ≤ 300000
IsSmall (Queue s to rest origin) = length (frame (record { to = to; rest = rest; origin = origin })) ≤ 524288

abbrev pub AreSmall : List Effect → Type 0
AreSmall [] = ⊤
AreSmall (e ∷ more) = IsSmall e × AreSmall more

abbrev pub IsShortAddress : Address → Type 0
IsShortAddress a = length (address_text a) ≤ 3071

abbrev pub AreShortAddresses : World KeptTraffic → Type 0
AreShortAddresses world = (s : ℕ) → IsShortAddress (world.sessions s).rest.address

-- what is kept of those who are in a room is short: the addresses of their sessions, the nick, and what is shown of the presence
pub record IsShortOccupant (o : Occupant) : Type 0 where
  pub seats : AllByRecursion (λ (x : Seat). IsShortAddress x.address) o.seats
  pub nick : length o.nick ≤ 3071
  pub presence : length o.presence ≤ 16384

-- and of a room: its address, its settings, the list of affiliations, and the subject
pub record IsShortRoom (r : Room) : Type 0 where
  pub address : IsShortAddress r.address
  pub title : length r.config.title ≤ 256
  pub secret : length r.config.secret ≤ 256
  pub most : r.config.max ≤ 1000
  pub affiliations : sum (map admin.counted r.affiliations) ≤ admin.most_text
  pub occupants : AllByRecursion IsShortOccupant r.occupants
  pub subject : IfSome r.subject (λ s. (length s.text ≤ 300000) × (length s.stamp ≤ 24))

abbrev pub AreShortRooms : Rooms → Type 0
AreShortRooms rooms = AllByRecursion (λ (h : Hosted). IsShortRoom h.room) rooms.hosted

-- and what is kept of messages: each text
abbrev pub AreShortRows : List Row → Type 0
AreShortRows rows = AllByRecursion (λ (row : Row). length row.text ≤ 300000) rows

pub record AreShortArchives (a : Archives) : Type 0 where
  pub users : (user : List ℕ) → AreShortRows (a.users user).kept
  pub rooms : (n : ℕ) → AreShortRows (a.rooms n).kept
  pub bytes : a.bytes ≤ most_bytes

-- each row of an archive has one of the numbers that were given, and there are no more rows than that
pub record IsNumbered (x : Rows) : Type 0 where
  pub ids : AllByRecursion (λ (row : Row). row.id ≤ x.made) x.kept
  pub count : length x.kept ≤ x.made

pub record AreNumbered (a : Archives) : Type 0 where
  pub users : (user : List ℕ) → IsNumbered (a.users user)
  pub rooms : (n : ℕ) → IsNumbered (a.rooms n)

-- what the rules on stanzas read is short: the domain, the address of each session, and of each who has asked, each presence that is kept,
-- each roster, the count of each session's pushes, the rooms and the archives, whose numbers have 64 bits, the next one too
pub record IsShortScene (o : Scene) : Type 0 where
  pub domain : length o.domain ≤ 1023
  pub addresses : AreShortAddresses o.world
  pub asking : (own : List ℕ) → AllByRecursion IsShortAddress (asking o.domain o.world own)
  pub presences : (s : ℕ) → IfSome (o.world.sessions s).rest.manner.presence (λ p. length p ≤ 16384)
  pub rosters : (own : List ℕ) → sum (map counted (own_contacts o own)) ≤ most_text
  pub pushes : (s : ℕ) → (o.world.sessions s).rest.manner.pushes < 2 ^ 64
  pub rooms : AreShortRooms o.world.rooms
  pub archives : AreShortArchives o.world.archives
  pub numbers : AreNumbered o.world.archives
  pub rows : HaveFewRows (2 ^ 64 - 2) o.world.archives
