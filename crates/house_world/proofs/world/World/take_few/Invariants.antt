use Rattle.std.proofs.Common.{ℕ, ◌<◌, [], drop}
use Rattle.house_world.specs.Readiness.{needed}
use Rattle.house_world.specs.Wholes.{HasSpare, IsHeldBy, IsTied}
use Rattle.house_world.specs.Worlds.{Did}
use Rattle.house_world.proofs.world.World.take_few.Given as goal

abbrev pub invariant-loop-effect : goal.invariant-loop-effect
invariant-loop-effect l = record {
  tied : IsTied l.self.table;
  ready : (s : ℕ) → needed s (drop l.effect-index l.effects) < needed s l.effects
      → HasSpare (needed s l.effects) s l.self.table;
  same : Did [] 0 l.fn.self l.self;
  held : (w r : ℕ) → IsHeldBy w r l.fn.self.table → IsHeldBy w r l.self.table;
}
