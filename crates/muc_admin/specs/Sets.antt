-- A set of items: each is judged in the room as it is after those before it, and nothing is done where one is refused (XEP-0045, 8 to 10).
use Rattle.std.specs.Prelude.{◌==◌, List, [], ◌∷◌, ◌++◌, length, Bool, not, ◌&&◌, Option, Some, None, if◌then◌else◌}
use Rattle.stanza_model.specs.Replies.{result_of, said_to}
use Rattle.stanza_model.specs.declared.condition.Condition.{Condition}
use Rattle.stanza_model.specs.declared.effect.Change.TheVariants.{RoomGone}
use Rattle.stanza_model.specs.declared.effect.Effect.{Effect}
use Rattle.stanza_model.specs.declared.effect.Effect.TheVariants as effect
use Rattle.stanza_model.specs.declared.here.Here.{Here}
use Rattle.stanza_model.specs.declared.room.Room.{Room}
use Rattle.stanza_model.specs.declared.stanza.Stanza.{Stanza}
use Rattle.muc_room.specs.Entering.{or_else}
use Rattle.muc_admin.specs.Afterwards.{after}
use Rattle.muc_admin.specs.Refusals.{refusal}
use Rattle.muc_admin.specs.Telling.{effects_of}
use Rattle.muc_admin.specs.declared.item.Wanted.{Wanted}

-- the first item that is refused decides
abbrev pub first_refusal : Room → Here → List Wanted → Option Condition
first_refusal room who [] = None
first_refusal room who (w ∷ more) = or_else (refusal room who w) (first_refusal (after w room) who more)

abbrev pub all_effects : Room → List Wanted → List Effect
all_effects room [] = []
all_effects room (w ∷ more) = effects_of room w ++ all_effects (after w room) more

abbrev pub after_all : List Wanted → Room → Room
after_all [] room = room
after_all (w ∷ more) room = after_all more (after w room)

abbrev pub has_occupants : Room → Bool
has_occupants room = not (length room.occupants == 0)

-- XEP-0045, 10.1.2: a room that isn't persistent goes where it has lost its last occupant
abbrev pub gone_if_left : (had : Bool) → Room → List Effect
gone_if_left had room =
    if had && not (has_occupants room) && not room.config.persistent then effect.Set (RoomGone room.number) ∷ [] else []

-- what comes of each item, then of the room, and then the empty result
abbrev pub done : Room → Here → Stanza → List Wanted → List Effect
done room who request ws =
    all_effects room ws ++ gone_if_left (has_occupants room) (after_all ws room) ++ said_to who (result_of request []) ∷ []
