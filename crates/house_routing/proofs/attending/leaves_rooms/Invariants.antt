use Rattle.std.proofs.Common.{◌≡◌, ◌++◌, drop}
use Rattle.std.specs.Prelude.{flat_map}
use Rattle.std.specs.Option.{option_copied}
use Rattle.muc_room.specs.Leaving.{leave}
use Rattle.house_model.specs.Routing.{leaves_rooms}
use Rattle.house_routing.proofs.attending.leaves_rooms.Given as goal

abbrev pub invariant-loop-h : goal.invariant-loop-h
invariant-loop-h l =
    l.effects.items ++ flat_map (λ h. leave h.room l.s (option_copied l.stanza)) (drop l.h-index l.h-items)
    ≡ leaves_rooms l.fn.world.rooms l.fn.s (option_copied l.fn.stanza)
