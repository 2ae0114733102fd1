use Rattle.std.proofs.Common.{◌≡◌, ◌++◌, drop}
use Rattle.house_world.specs.Readiness.{queued_for}
use Rattle.house_world.proofs.reserving.queued_for.Given as goal

abbrev pub invariant-loop-effect : goal.invariant-loop-effect
invariant-loop-effect l = record {
  done : l.numbers.items ++ queued_for (drop l.effect-index l.effects) ≡ queued_for l.effects;
}
