-- A room with one session, told to its end: what suits, and what the logs and the session's queue are then.
use Rattle.std.proofs.Common.{◌≡◌, List, [], ◌∷◌, length, map, false, refl, arith, Some, None}
use Rattle.jid_core.specs.Addresses.{Address}
use Rattle.stanza_tree.specs.Spelling as spelling
use Rattle.stanza_model.specs.declared.effect.Change.TheVariants.{RoomMade}
use Rattle.stanza_model.specs.declared.effect.Effect as stanza
use Rattle.stanza_model.specs.declared.effect.Effect.TheVariants.{Broadcast, Enter, Leave, Set}
use Rattle.stanza_model.specs.declared.room.Role.TheVariants.{Moderator}
use Rattle.stanza_model.specs.declared.room.RoomItem.TheVariants.{Message}
use Rattle.muc_service.specs.Rooms.{made_room}
use Rattle.house_model.specs.Traffic.{Traffic, whole}
use Rattle.house_model.specs.States.{World, opening}
use Rattle.house_model.specs.Effects as effects
use Rattle.house_model.specs.Effects.{Effect, apply_all}
use Rattle.house_model.specs.Stays.{Ended, Logs, no_logs, live_of, logs_through}
use Rattle.house_model.specs.Casts.{Part, Alone, Cast, parts_effects, PartsSuit}

abbrev pub her : Address
her = record { local = Some (97 ∷ []); domain = 98 ∷ []; resource = Some (99 ∷ []) }

abbrev pub room : Address
room = record { local = Some (100 ∷ []); domain = 101 ∷ []; resource = None }

abbrev pub start : World Traffic
start = (opening her ((97 ∷ []) ∷ []) 2).world

-- She is bound, makes a room, enters it, hears one item, leaves, and another comes.
abbrev told : List stanza.Effect
told =
    Set (RoomMade 1 room her) ∷ Enter 1 1 her (110 ∷ []) Moderator ∷ Broadcast 1 (Message (1 ∷ []) false room 0) ∷ Leave 1 1
    ∷ Broadcast 1 (Message (2 ∷ []) false room 0) ∷ []

abbrev parts : List Part
parts = Alone (effects.Open 0) ∷ Alone (effects.Begin 0 1 her) ∷ Cast told ∷ []

pub they_suit : PartsSuit start parts
they_suit = (
  tt,
  (
    tt,
    (
      (
        refl,
        (
          record {
            made = omega arith;
            address = refl;
            host = record { room = made_room 1 room her; items = 0 };
            hosted = refl;
            outside = refl;
          },
          (tt, (tt, (tt, tt))),
        ),
      ),
      tt,
    ),
  ),
)

abbrev world : World Traffic
world = apply_all whole start (parts_effects start parts)

abbrev logs : Logs
logs = logs_through start (parts_effects start parts) no_logs

pub her_stay : logs.stays 1 ≡ Ended 1 1 0 1
unfolding spelling.escaped_in_value spelling.escaped_in_words
her_stay = refl

pub two_items : length (logs.order 1) ≡ 2
two_items = refl

pub one_entry : map (λ e. e.rest) (live_of 1 (world.sessions 1).traffic.queued) ≡ (1 ∷ []) ∷ []
unfolding spelling.escaped_in_value spelling.escaped_in_words
one_entry = refl
