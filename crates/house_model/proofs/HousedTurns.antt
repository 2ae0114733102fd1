-- What happens to the house keeps those who are in a room in the house.
use Rattle.std.proofs.Common.{◌≡◌, ℕ, ◌+◌, ◌≤◌, ◌<◌, List, [], ◌∷◌, ◌++◌, map, flat_map, append_assoc, Option, Some, None, IfSome, Bool}
use Rattle.std.proofs.Common.{true, false, refl, sym, ap, ◌∙◌, subst, arith}
use Rattle.std.specs.List.{AllByRecursion}
use Rattle.jid_core.specs.Addresses.{Address}
use Rattle.stanza_model.specs.declared.effect.Effect as stanza
use Rattle.muc_room.specs.Leaving.{leave}
use Rattle.muc_service.specs.Casting.{after, cast, heard}
use Rattle.muc_service.specs.Rooms.{Hosted, Rooms, hosted_as, step}
use Rattle.house_model.specs.Fitting.{EffectFits, IsInHouse}
use Rattle.house_model.specs.Lookups.{here, session_in}
use Rattle.house_model.specs.Numbered.{least}
use Rattle.house_model.specs.RoomLookups.{rooms_of}
use Rattle.house_model.specs.Routing.{departure, departure_by}
use Rattle.house_model.specs.Sessions.{Hold, Held, Away, Ended, Gone, Rest, Session, Op, begun, session_step}
use Rattle.house_model.specs.Sessions as sessions
use Rattle.house_model.specs.Sound.{Sound}
use Rattle.house_model.specs.States.{World, keep_by, keep_session, keep_world}
use Rattle.house_model.specs.Steps.{effect_of, is_due}
use Rattle.house_model.specs.Effects.{Effect, Begin, On, apply, apply_all}
use Rattle.house_model.specs.Traffic.{KeptTraffic, Traffic, whole}
use Rattle.house_model.proofs.Founds.{least_among, session_found}
use Rattle.house_model.proofs.Housed.{AllLive, Housed, after_live, housed_by}
use Rattle.house_model.proofs.InHouse.{HasNoZero, effect_keeps, found_in_house, stays_in_house}
use Rattle.house_model.proofs.Outs.{Out, after_then, all_left, out_lives}
use Rattle.house_model.proofs.Partings.{IsNoPart, least_passes}
use Rattle.house_model.proofs.PresenceCases.{departure_by_all}
use Rattle.house_model.proofs.PutLemmas.{put_else}
use Rattle.house_model.proofs.RoomsKept.{EachRoom}
use Rattle.house_model.proofs.SeatLemmas.{seat}
use Rattle.house_model.proofs.StayGood.{seats_in}
use Rattle.house_model.proofs.StayLists.{IsCalm, calm_after}
use Rattle.muc_service.specs.Numbering.{Numbered}
use Rattle.house_model.proofs.StayWhole.{cast_rooms, map_effects}

-- what is known of the house after each event
pub record Known (world : World Traffic) : Type 0 where
  pub sound : Sound world
  pub zero : HasNoZero world
  pub numbered : Numbered world.rooms
  pub housed : Housed world

-- who departs is in the house

pub at_in_house : (world : World Traffic) (a : Address) → IfSome (session_in (keep_world world) a) (λ s. IsInHouse s world)
at_in_house world a = by (session_in (keep_world world) a) refl where
  by : (o : Option ℕ) → session_in (keep_world world) a ≡ o → IfSome o (λ s. IsInHouse s world)
  by None is = tt
  by (Some s) is = found_in_house world s (session_found (keep_world world) a s is)

due_stays : (now : ℕ) (b : Bool) (m : Hold) (t : Traffic) (r : Rest) → is_due now (keep_by b m t r) ≡ true → m ≡ Gone → ⊥
due_stays now b (Held w c) t r is gone = cc
due_stays now b Away t r is gone = cc
due_stays now b (Ended cause) t r is gone = cc
due_stays now b Gone t r is gone = (let z : false ≡ true = is in cc)

pub due_in_house : (world : World Traffic) (now : ℕ) → IfSome (least world.made (λ s. is_due now (keep_session (world.sessions s)))) (λ s. IsInHouse s world)
due_in_house world now = by (least world.made (λ s. is_due now (keep_session (world.sessions s)))) refl where
  by : (o : Option ℕ) → least world.made (λ s. is_due now (keep_session (world.sessions s))) ≡ o → IfSome o (λ s. IsInHouse s world)
  by None is = tt
  by (Some s) is =
      let among : (0 < s) × (s ≤ world.made) = least_among world.made (λ n. is_due now (keep_session (world.sessions n))) s is in
      record {
        above = among.0;
        made = among.1;
        stays = due_stays now (world.sessions s).counts (world.sessions s).hold (world.sessions s).traffic (world.sessions s).rest
            (least_passes world.made (λ n. is_due now (keep_session (world.sessions n))) s is);
      }

-- effects that change no room

pub housed_same : (world new : World Traffic) → new.rooms ≡ world.rooms → ((q : ℕ) → IsInHouse q world → IsInHouse q new) → Housed world → Housed new
housed_same world new same kept housed =
    subst (EachRoom (AllLive (λ q. IsInHouse q new))) (sym same) (housed_by (λ q. IsInHouse q world) (λ q. IsInHouse q new) kept world.rooms housed)

pub begun_in_house : (world : World Traffic) (w c : ℕ) (a : Address) (q : ℕ) → IsInHouse q world → IsInHouse q (apply whole world (Begin w c a))
begun_in_house world w c a q is = record {
  above = is.above;
  made = (let low : q ≤ world.made = is.made in omega arith);
  stays = λ gone. is.stays
      (sym (ap (λ (y : Session Traffic). y.hold)
      (put_else (world.made + 1) (begun whole w c a) world.sessions q (λ (e : q ≡ world.made + 1). let low : q ≤ world.made = is.made in omega arith)))
      ∙ gone);
}

pub on_housed : (world : World Traffic) (s : ℕ) (op : Op) → IsNoPart op → Housed world → Housed (apply whole world (On s op))
on_housed world s op stays housed = housed_same world (apply whole world (On s op)) refl (λ q is. stays_in_house world q s op stays is) housed

parted_in_house : (world : World Traffic) (s q : ℕ) → (q ≡ s → ⊥) → IsInHouse q world → IsInHouse q (apply whole world (On s sessions.Part))
parted_in_house world s q ne is = record {
  above = is.above;
  made = is.made;
  stays = λ gone. is.stays
      (sym (ap (λ (y : Session Traffic). y.hold) (put_else s (session_step whole (world.sessions s) sessions.Part) world.sessions q ne)) ∙ gone);
}

-- one that departs is in no room
pub parted_housed : (world : World Traffic) (s : ℕ) → Out s world.rooms → Housed world → Housed (apply whole world (On s sessions.Part))
parted_housed world s out housed n = by (hosted_as n world.rooms) (out n) (housed n) where
  by : (o : Option Hosted) → seat s (seats_in o) ≡ None → IfSome o (λ h. AllLive (λ q. IsInHouse q world) h.room)
      → IfSome o (λ h. AllLive (λ q. IsInHouse q (apply whole world (On s sessions.Part))) h.room)
  by None none is = tt
  by (Some h) none is =
      out_lives s (λ q. IsInHouse q world) (λ q. IsInHouse q (apply whole world (On s sessions.Part))) (parted_in_house world s) h.room.occupants none is

-- what is cast

pub then_applied : (world : World Traffic) (es fs : List Effect) → apply_all whole world (es ++ fs) ≡ apply_all whole (apply_all whole world es) fs
then_applied world [] fs = refl
then_applied world (e ∷ more) fs = then_applied (apply whole world e) more fs

pub cast_after : (es : List stanza.Effect) (world : World Traffic) → (apply_all whole world (map effect_of (cast world.rooms es))).rooms ≡ after world.rooms es
cast_after [] world = refl
cast_after (e ∷ more) world =
    let first : List stanza.Effect = heard world.rooms e ++ e ∷ [] in
    let rest : List stanza.Effect = cast (step e world.rooms) more in
    let then : World Traffic = apply_all whole world (map effect_of first) in
    let parts : map effect_of (heard world.rooms e ++ e ∷ rest) ≡ map effect_of first ++ map effect_of rest =
    ap (map effect_of) (sym (append_assoc (heard world.rooms e) (e ∷ []) rest)) ∙ map_effects first rest in
    ap (λ (l : List Effect). (apply_all whole world l).rooms) parts
    ∙ (ap (λ (w : World Traffic). w.rooms) (then_applied world (map effect_of first) (map effect_of rest))
    ∙ (ap (λ (rs : Rooms). (apply_all whole then (map effect_of (cast rs more))).rooms) (sym (cast_rooms world e))
    ∙ (cast_after more then ∙ ap (λ (rs : Rooms). after rs more) (cast_rooms world e))))

all_in_house : (es : List stanza.Effect) (world : World Traffic) (q : ℕ) → IsInHouse q world → IsInHouse q (apply_all whole world (map effect_of es))
all_in_house [] world q is = is
all_in_house (e ∷ es) world q is = all_in_house es (apply whole world (effect_of e)) q (effect_keeps world q e is)

pub cast_housed : (es : List stanza.Effect) (world : World Traffic) → AllByRecursion (EffectFits world) es → Housed world
    → Housed (apply_all whole world (map effect_of (cast world.rooms es)))
cast_housed es world fits housed =
    let new : World Traffic = apply_all whole world (map effect_of (cast world.rooms es)) in
    subst (EachRoom (AllLive (λ q. IsInHouse q new))) (sym (cast_after es world))
    (housed_by (λ q. IsInHouse q world) (λ q. IsInHouse q new) (λ q is. all_in_house (cast world.rooms es) world q is) (after world.rooms es)
    (after_live world es world.rooms housed fits))

-- a departure leaves all rooms
pub departure_out : (world : World KeptTraffic) (s : ℕ) → Out s (after world.rooms (departure world s))
departure_out world s =
    let told : List stanza.Effect = departure_by (here world s).address.local world (here world s) in
    let calm : AllByRecursion IsCalm told = departure_by_all world s IsCalm (λ h found. tt) tt (λ addresses. tt) in
    let left : List stanza.Effect = flat_map (λ h. leave h.room s None) (rooms_of s world.rooms) in
    subst (Out s) (sym (after_then told left world.rooms ∙ ap (λ (rs : Rooms). after rs left) (calm_after world.rooms told calm)))
    (all_left s world.rooms)
