use Rattle.std.proofs.Common.{◌≡◌, ◌+◌, ◌≤◌, drop, length}
use Rattle.house_model.specs.Archiving.{rows_of_user}
use Rattle.house_world.proofs.reserving.rows_of_user.Given as goal

abbrev pub invariant-loop-effect : goal.invariant-loop-effect
invariant-loop-effect l = record {
  most : l.count ≤ l.effect-index;
  all : l.count + length (rows_of_user l.user (drop l.effect-index l.effects)) ≡ length (rows_of_user l.user l.effects);
}
