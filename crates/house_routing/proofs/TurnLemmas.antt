-- What comes of a stanza or of a departure, as it is cast, and the rooms after it.
use Rattle.std.proofs.Common.{◌≡◌, ℕ, ◌+◌, ◌<◌, ◌^◌, List, [], ◌∷◌, length, IfSome, refl, sym, subst, arith}
use Rattle.std.specs.Prelude.{unwrap_or}
use Rattle.jid_core.specs.Addresses.{Address}
use Rattle.stanza_model.specs.Stanzas.{to_in}
use Rattle.stanza_model.specs.declared.effect.Effect.{Effect}
use Rattle.stanza_model.specs.declared.stanza.Stanza.{Stanza}
use Rattle.muc_service.specs.Casting.{after, cast}
use Rattle.muc_service.specs.Changing.{HasRoomForAll}
use Rattle.muc_service.specs.Rooms.{Rooms, step}
use Rattle.house_model.specs.Casts.{AllSuit}
use Rattle.house_model.specs.Fitting.{AreShortRooms, AreSmall, IsShortAddress, IsShortScene}
use Rattle.house_model.specs.Histories.{StanzaFits}
use Rattle.house_model.specs.Lookups.{here}
use Rattle.house_model.specs.Routing.{Scene, departure, effects_in}
use Rattle.house_model.specs.States.{World}
use Rattle.house_model.specs.Traffic.{KeptTraffic}
use Rattle.house_model.proofs.AffiliationSums.{after_modest, modest_of, wholly_short}
use Rattle.house_model.proofs.BodiesKept.{stanza_bodies}
use Rattle.house_model.proofs.RoomSuits.{easy_suits}
use Rattle.muc_service.specs.Numbering.{Numbered}
use Rattle.house_model.proofs.StayNumbers.{step_numbered}
use Rattle.house_model.proofs.StayPlain.{departure_easy, stanza_suits}
use Rattle.house_model.proofs.SumTables.{stanza_sums}
use Rattle.house_world.specs.declared.casting.Cast.{Cast}
use Rattle.house_world.specs.Hosting.{AreHosted, Hosts, IsCast}
use Rattle.house_model.proofs.ShortRooms.{departed_rooms}
use Rattle.house_world.proofs.CastLemmas.{hosted_next, room_for_all}
use Rattle.house_routing.proofs.OnceLemmas.{IsOnce, departure_once, stanza_once}

-- it has numbers

once_room : (es : List Effect) (rooms : Rooms) → IsOnce es → length es < 2 ^ 64 → AreHosted (2 ^ 63 + 2 ^ 62) rooms → HasRoomForAll es rooms
once_room es rooms once few hosted = room_for_all (2 ^ 63 + 2 ^ 62) es rooms (omega arith) once.0 once.1 few hosted

pub stanza_room : (o : Scene) (s : ℕ) (x : Stanza) (es : List Effect) → es ≡ effects_in o s x → length es < 2 ^ 64
    → AreHosted (2 ^ 63 + 2 ^ 62) o.world.rooms → HasRoomForAll es o.world.rooms
stanza_room o s x es is few hosted = once_room es o.world.rooms (subst IsOnce (sym is) (stanza_once o s x)) few hosted

pub departure_room : (world : World KeptTraffic) (s : ℕ) (es : List Effect) → es ≡ departure world s → length es < 2 ^ 64
    → AreHosted (2 ^ 63 + 2 ^ 62) world.rooms → HasRoomForAll es world.rooms
departure_room world s es is few hosted = once_room es world.rooms (subst IsOnce (sym is) (departure_once world s)) few hosted

-- it is a cast of what the definition gives
pub cast_is : (es fs : List Effect) (rooms : Rooms) (c : Cast) → es ≡ fs → IsCast es rooms c → IsCast fs rooms c
cast_is es fs rooms c is made = subst (λ (xs : List Effect). IsCast xs rooms c) is made

pub cast_small : (es fs : List Effect) (rooms : Rooms) (c : Cast) → es ≡ fs → IsCast es rooms c → AreSmall (cast rooms fs) → AreSmall c.effects.items
cast_small es fs rooms c is made small = subst AreSmall (sym (cast_is es fs rooms c is made).effects) small

-- the rooms after it

suits_numbered : (made : ℕ) (addresses : ℕ → Address) (es : List Effect) (rooms : Rooms) → AllSuit made addresses rooms es → Numbered rooms
    → Numbered (after rooms es)
suits_numbered made addresses [] rooms suits numbered = numbered
suits_numbered made addresses (e ∷ es) rooms suits numbered =
    suits_numbered made addresses es (step e rooms) suits.1 (step_numbered rooms made addresses e suits.0 numbered)

stanza_numbered : (o : Scene) (s : ℕ) (x : Stanza) → Numbered o.world.rooms → Numbered (after o.world.rooms (effects_in o s x))
stanza_numbered o s x numbered =
    suits_numbered s (λ r. (here o.world r).address) (effects_in o s x) o.world.rooms
    (stanza_suits o s x s (λ r. (here o.world r).address) numbered (omega arith) refl) numbered

departure_numbered : (world : World KeptTraffic) (s : ℕ) → Numbered world.rooms → Numbered (after world.rooms (departure world s))
departure_numbered world s numbered =
    suits_numbered s (λ r. (here world r).address) (departure world s) world.rooms
    (easy_suits s (λ r. (here world r).address) world.rooms (departure world s) (departure_easy world s)) numbered

stanza_short : (o : Scene) (s : ℕ) (x : Stanza) → StanzaFits x → IsShortScene o → IfSome (to_in x) IsShortAddress → Numbered o.world.rooms
    → AreShortRooms (after o.world.rooms (effects_in o s x))
stanza_short o s x fits short to numbered =
    wholly_short (after o.world.rooms (effects_in o s x)) (stanza_bodies o s x fits short.addresses short.rooms to)
    (after_modest (effects_in o s x) o.world.rooms (stanza_sums o s x numbered (short.addresses s)) (modest_of o.world.rooms.hosted short.rooms))

once_hosts : (n : ℕ) (es : List Effect) (rooms : Rooms) (c : Cast) → IsOnce es → IsCast es rooms c → length es < 2 ^ 64
    → Numbered (after rooms es) → AreShortRooms (after rooms es) → AreHosted n rooms → AreHosted (n + 1) (unwrap_or c.rooms rooms)
once_hosts n es rooms c once made few numbered short hosted = hosted_next n es rooms c made once.0 once.1 few numbered short hosted

pub stanza_hosts : (o : Scene) (s : ℕ) (x : Stanza) (es : List Effect) (c : Cast) → es ≡ effects_in o s x → IsCast es o.world.rooms c
    → length es < 2 ^ 64 → StanzaFits x → IsShortScene o → IfSome (to_in x) IsShortAddress → Hosts o.world.rooms (unwrap_or c.rooms o.world.rooms)
stanza_hosts o s x es c is made few fits short to = λ n hosted.
    once_hosts n es o.world.rooms c (subst IsOnce (sym is) (stanza_once o s x)) made few
    (subst (λ (xs : List Effect). Numbered (after o.world.rooms xs)) (sym is) (stanza_numbered o s x hosted.numbered))
    (subst (λ (xs : List Effect). AreShortRooms (after o.world.rooms xs)) (sym is) (stanza_short o s x fits short to hosted.numbered)) hosted

pub departure_hosts : (world : World KeptTraffic) (s : ℕ) (es : List Effect) (c : Cast) → es ≡ departure world s → IsCast es world.rooms c
    → length es < 2 ^ 64 → Hosts world.rooms (unwrap_or c.rooms world.rooms)
departure_hosts world s es c is made few = λ n hosted.
    once_hosts n es world.rooms c (subst IsOnce (sym is) (departure_once world s)) made few
    (subst (λ (xs : List Effect). Numbered (after world.rooms xs)) (sym is) (departure_numbered world s hosted.numbered))
    (subst (λ (xs : List Effect). AreShortRooms (after world.rooms xs)) (sym is) (departed_rooms world s hosted.short)) hosted
