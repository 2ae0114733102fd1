use Rattle.std.proofs.Common.{arith}
use Rattle.house_world.proofs.NoteLemmas.{places_all}
use Rattle.house_world.proofs.world.World.take_places.Goals as goal

pub returns-clause-places : goal.returns-clause-places
returns-clause-places c = λ user.
    places_all user c.args.effects.now c.loop-effect.effect-index c.loop-effect.self.book
    (omega (arith, c.loop-effect-test.false)) (c.loop-effect.invariant.places user)
