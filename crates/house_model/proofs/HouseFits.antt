-- What the effects of a stanza and of a departure name is in the house, as they are cast, each in the state in which its turn comes.
use Rattle.std.proofs.Common.{◌≡◌, ℕ, List, refl}
use Rattle.stanza_model.specs.declared.stanza.Stanza.{Stanza}
use Rattle.sm_resume.specs.declared.decision.Cause.{Cause}
use Rattle.session_table.specs.declared.line.Line.TheVariants.{Bound}
use Rattle.muc_service.specs.Casting.{cast}
use Rattle.house_model.specs.declared.event.Event.TheVariants as event
use Rattle.house_model.specs.Sessions.{Act, End}
use Rattle.house_model.specs.Traffic.{Traffic, whole}
use Rattle.house_model.specs.States.{Kept, State, World, keep, keep_world}
use Rattle.house_model.specs.Effects.{On, apply}
use Rattle.house_model.specs.Fitting.{IsInHouse, AllFit}
use Rattle.house_model.specs.Histories.{Turn, after, IsOpening}
use Rattle.house_model.specs.Routing.{departure, effects, scene_of}
use Rattle.house_model.specs.Steps.{turn}
use Rattle.house_model.proofs.Housed.{cast_fits}
use Rattle.house_model.proofs.HousedTurns.{Known, on_housed}
use Rattle.house_model.proofs.InHouse.{all_fit, departure_fit, held_in_house, stanza_fit}
use Rattle.house_model.proofs.StayVerdicts.{known_after}

pub stanza_fits : (o : State) (h : List Turn) (w c s t : ℕ) (x : Stanza) → IsOpening o
    → ((after o h).world.lines w).stage ≡ Bound c s
    → AllFit (apply whole (after o h).world (On s (Act x)))
    (cast (after o h).world.rooms (effects (keep (turn (event.Act w x t) (after o h))) s x))
stanza_fits o h w c s t x starts bound =
    let world : World Traffic = (after o h).world in
    let acted : World Traffic = apply whole world (On s (Act x)) in
    let k : Kept = keep (turn (event.Act w x t) (after o h)) in
    let known : Known world = known_after o h starts in
    let is : IsInHouse s world = held_in_house world s w c known.sound known.zero (known.sound.tied w c s bound) in
    all_fit acted (cast world.rooms (effects k s x))
    (cast_fits acted (effects k s x) world.rooms (on_housed world s (Act x) tt known.housed)
    (stanza_fit world (scene_of k) s x refl known.numbered known.housed is))

pub departure_fits : (o : State) (h : List Turn) (s : ℕ) (cause : Cause) → IsOpening o → IsInHouse s (after o h).world
    → AllFit (apply whole (after o h).world (On s (End cause)))
    (cast (after o h).world.rooms (departure (keep_world (after o h).world) s))
departure_fits o h s cause starts is =
    let world : World Traffic = (after o h).world in
    let ended : World Traffic = apply whole world (On s (End cause)) in
    let known : Known world = known_after o h starts in
    all_fit ended (cast world.rooms (departure (keep_world world) s))
    (cast_fits ended (departure (keep_world world) s) world.rooms (on_housed world s (End cause) tt known.housed)
    (departure_fit world s cause known.numbered known.housed is))
