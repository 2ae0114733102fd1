use Rattle.std.proofs.Common.{ℕ, ◌≤◌, []}
use Rattle.house_world.specs.Wholes.{IsHeldBy, IsTied}
use Rattle.house_world.specs.Worlds.{Did}
use Rattle.house_world.proofs.RunLemmas.{Taken}
use Rattle.house_world.proofs.world.World.take_runs.Given as goal

abbrev pub invariant-loop-number : goal.invariant-loop-number
invariant-loop-number l = record {
  most : l.run ≤ l.number-index;
  tied : IsTied l.self.table;
  taken : Taken l.numbers l.number-index l.last l.run l.self.table;
  same : Did [] 0 l.fn.self l.self;
  held : (w r : ℕ) → IsHeldBy w r l.fn.self.table → IsHeldBy w r l.self.table;
}
