use Rattle.std.proofs.Common.{◌≡◌, ◌+◌, ◌≤◌, drop}
use Rattle.house_world.specs.Readiness.{needed}
use Rattle.house_world.proofs.reserving.needed.Given as goal

abbrev pub invariant-loop-effect : goal.invariant-loop-effect
invariant-loop-effect l = record {
  most : l.count ≤ l.effect-index;
  all : l.count + needed l.s (drop l.effect-index l.effects) ≡ needed l.s l.effects;
}
