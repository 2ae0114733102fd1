use Rattle.std.proofs.Common.{◌≡◌, ◌≤◌, ◌+◌, drop}
use Rattle.house_world.specs.Readiness.{changes_in}
use Rattle.house_world.proofs.reserving.changes_in.Given as goal

abbrev pub invariant-loop-effect : goal.invariant-loop-effect
invariant-loop-effect l = record {
  most : l.count ≤ l.effect-index;
  counted : l.count + changes_in (drop l.effect-index l.effects) ≡ changes_in l.effects;
}
