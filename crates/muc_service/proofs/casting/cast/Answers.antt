use Rattle.muc_service.proofs.CastLemmas.{after_next, cast_next, room_first, room_next}
use Rattle.muc_service.proofs.casting.cast.Goals as goal

pub cast_one-requires : goal.cast_one-requires
cast_one-requires c =
    room_first c.loop-effect.effect-iterator.rest.items c.next.new.self.rest.items c.in-Some.effect c.loop-effect.rooms c.in-Some.ensures.steps.0
    c.loop-effect.invariant.room

pub loop-effect-preserved : goal.loop-effect-preserved
loop-effect-preserved c =
    let es = c.loop-effect.effect-iterator.rest.items in
    let more = c.next.new.self.rest.items in
    let e = c.in-Some.effect in
    let before = c.loop-effect.rooms in
    let now = c.cast_one.new.rooms in
    let first = c.in-Some.ensures.steps.0 in
    let was = c.loop-effect.invariant in
    record {
      cast = cast_next c.loop-effect.out.items c.cast_one.new.out.items es more _ e before now first c.in_ok-cast_one.ensures.cast
          c.in_ok-cast_one.ensures.after was.cast;
      after = after_next es more e before now _ first c.in_ok-cast_one.ensures.after was.after;
      room = room_next es more e before now first c.in_ok-cast_one.ensures.after was.room;
    }
