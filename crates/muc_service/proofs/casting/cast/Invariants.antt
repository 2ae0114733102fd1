use Rattle.std.proofs.Common.{◌≡◌, ◌++◌}
use Rattle.muc_service.specs.Casting.{after, cast}
use Rattle.muc_service.specs.Changing.{HasRoomForAll}
use Rattle.muc_service.proofs.casting.cast.Given as goal

abbrev pub invariant-loop-effect : goal.invariant-loop-effect
invariant-loop-effect l = record {
  cast : l.out.items ++ cast l.rooms l.effect-iterator.rest.items ≡ cast l.fn.rooms l.fn.effects.items;
  after : after l.rooms l.effect-iterator.rest.items ≡ after l.fn.rooms l.fn.effects.items;
  room : HasRoomForAll l.effect-iterator.rest.items l.rooms;
}
