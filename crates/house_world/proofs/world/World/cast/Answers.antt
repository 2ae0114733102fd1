use Rattle.std.proofs.Common.{◌≡◌, List, false, sym, ap, ◌∙◌}
use Rattle.std.specs.List.{list_any}
use Rattle.stanza_model.specs.declared.effect.Effect.{Effect}
use Rattle.house_world.specs.Hosting.{touches}
use Rattle.house_world.proofs.CastLemmas.{cast_rooms, untouched_cast, untouched_rooms}
use Rattle.house_world.proofs.world.World.cast.Goals as goal

pub returns-then-touch_rooms : goal.returns-then-touch_rooms
returns-then-touch_rooms c =
    let both = cast_rooms c.args.effects.items c.in_ok-effects.effects.items c.args.self.now.rooms c.in_ok-rooms.rooms c.cast.new.rooms c.in_ok-rooms.ensures
    c.in_ok-effects.ensures.cast c.in_ok-effects.ensures.after in
    record { effects = both.0; put = both.1 }

pub returns : goal.returns
returns c =
    let is : list_any touches c.args.effects.items ≡ false =
    ap (λ (es : List Effect). list_any touches es) (sym c.as_slice.ensures.value) ∙ (sym c.touch_rooms.ensures ∙ c.if-touch_rooms.false) in
    record {
      effects = untouched_cast c.args.effects.items c.args.self.now.rooms is;
      put = untouched_rooms c.args.effects.items c.args.self.now.rooms is;
    }
