-- When a list of a stanza's effects fits the rooms, so that it keeps each stay's run of its room's order.
use Rattle.std.specs.Prelude.{ℕ, ◌+◌, ◌≡◌, ◌≤◌, List, [], ◌∷◌, ◌++◌, map, false, Option, Some, None, is_some, ⊤}
use Rattle.jid_core.specs.Addresses.{Address}
use Rattle.stanza_tree.specs.declared.frame.Origin.{Origin}
use Rattle.stanza_tree.specs.declared.frame.Origin.TheVariants.{Direct, Opening, Live}
use Rattle.stanza_model.specs.declared.effect.Change.{Change}
use Rattle.stanza_model.specs.declared.effect.Change.TheVariants.{RoomMade, Renamed}
use Rattle.stanza_model.specs.declared.effect.Effect as stanza
use Rattle.stanza_model.specs.declared.effect.Effect.TheVariants.{Queue, Broadcast, Enter, Leave, Keep, Set}
use Rattle.muc_room.specs.Seats.{holder_of}
use Rattle.muc_service.specs.Rooms.{Hosted, Rooms, hosted_as, is_in, step}
use Rattle.muc_service.specs.Casting.{cast}
use Rattle.house_model.specs.declared.event.Event.{Event}
use Rattle.house_model.specs.Sessions.{Op, Push}
use Rattle.house_model.specs.Traffic.{Traffic, whole}
use Rattle.house_model.specs.States.{World, State, keep}
use Rattle.house_model.specs.Effects.{Effect, On, Hosts, Files, apply_all}
use Rattle.house_model.specs.Steps.{effect_of, verdict, turn}
use Rattle.house_model.specs.Histories.{Outcome, Made, Short, Turn, next}

-- an entry that isn't an item of a stay
abbrev pub IsNotLive : Origin → Type 0
IsNotLive Direct = ⊤
IsNotLive (Opening room stay) = ⊤
IsNotLive (Live room stay number) = ⊥

-- A session that was made, of the numbers up to this, enters by its own address a room that is there, where it has no seat yet.
pub record MayEnter (upto : ℕ) (addresses : ℕ → Address) (rooms : Rooms) (n s : ℕ) (own : Address) (nick : List ℕ) : Type 0 where
  pub made : s ≤ upto
  pub address : own ≡ addresses s
  pub host : Hosted
  pub hosted : hosted_as n rooms ≡ Some host
  pub outside : is_in s host ≡ false

-- nobody in the room has the nick (XEP-0045, 7.6)
abbrev pub IsFreeIn : Option Hosted → List ℕ → Type 0
IsFreeIn None nick = ⊤
IsFreeIn (Some h) nick = is_some (holder_of nick h.room.occupants) ≡ false

-- a room that is made has the next number, and a nick that is taken is free
abbrev pub ChangeSuits : Rooms → Change → Type 0
ChangeSuits rooms (RoomMade n address owner) = n ≡ rooms.made + 1
ChangeSuits rooms (Renamed n s nick) = IsFreeIn (hosted_as n rooms) nick
ChangeSuits rooms change = ⊤

abbrev pub Suits : ℕ → (ℕ → Address) → Rooms → stanza.Effect → Type 0
Suits made addresses rooms (Queue s to rest origin) = IsNotLive origin
Suits made addresses rooms (Broadcast n item) = ⊤
Suits made addresses rooms (Enter n s address nick role) = MayEnter made addresses rooms n s address nick
Suits made addresses rooms (Leave n s) = ⊤
Suits made addresses rooms (Keep user peer text moment) = ⊤
Suits made addresses rooms (Set change) = ChangeSuits rooms change

-- each effect, by the rooms as they are when its turn comes
abbrev pub AllSuit : ℕ → (ℕ → Address) → Rooms → List stanza.Effect → Type 0
AllSuit made addresses rooms [] = ⊤
AllSuit made addresses rooms (e ∷ more) = Suits made addresses rooms e × AllSuit made addresses (step e rooms) more

abbrev pub addresses_in : World Traffic → ℕ → Address
addresses_in world s = (world.sessions s).rest.address

-- What an event does, in parts: an effect on lines, sessions and users, or a list of a stanza's effects, as it is cast.
pub data Part : Type 0 where
  Alone : (effect : Effect) → Part
  Cast : (effects : List stanza.Effect) → Part

abbrev pub part_effects : World Traffic → Part → List Effect
part_effects world (Alone e) = e ∷ []
part_effects world (Cast es) = map effect_of (cast world.rooms es)

abbrev pub parts_effects : World Traffic → List Part → List Effect
parts_effects world [] = []
parts_effects world (p ∷ more) = part_effects world p ++ parts_effects (apply_all whole world (part_effects world p)) more

abbrev pub QueuesNoItem : Op → Type 0
QueuesNoItem (Push entry) = IsNotLive entry.origin
QueuesNoItem op = ⊤

abbrev pub IsPlain : Effect → Type 0
IsPlain (On s op) = QueuesNoItem op
IsPlain (Hosts e) = ⊥
IsPlain (Files filing) = ⊥
IsPlain e = ⊤

abbrev pub PartSuits : World Traffic → Part → Type 0
PartSuits world (Alone e) = IsPlain e
PartSuits world (Cast es) = AllSuit world.made (addresses_in world) world.rooms es

abbrev pub PartsSuit : World Traffic → List Part → Type 0
PartsSuit world [] = ⊤
PartsSuit world (p ∷ more) = PartSuits world p × PartsSuit (apply_all whole world (part_effects world p)) more

abbrev pub TurnSuits : State → Event → Outcome → Type 0
TurnSuits st e (Made reply text) = (parts : List Part) × ((verdict (keep (turn e st)) e).effects ≡ parts_effects st.world parts) × PartsSuit st.world parts
TurnSuits st e Short = ⊤

-- each turn of a history is made of parts that suit
abbrev pub HistorySuits : State → List Turn → Type 0
HistorySuits st [] = ⊤
HistorySuits st (x ∷ more) = TurnSuits st x.event x.outcome × HistorySuits (next st x) more
