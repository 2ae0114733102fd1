use Rattle.std.proofs.Common.{◌≡◌, ℕ, ◌<◌, ◌≤◌, List, [], drop}
use Rattle.contact_table.specs.Tables.{spare}
use Rattle.house_world.specs.Readiness.{changes_in, notes}
use Rattle.house_world.specs.Wholes.{IsTied}
use Rattle.house_world.specs.Worlds.{Did}
use Rattle.house_world.proofs.world.World.take_places.Given as goal

abbrev pub invariant-loop-effect : goal.invariant-loop-effect
invariant-loop-effect l = record {
  tied : IsTied l.self.table;
  places : (u : List ℕ) → notes u (drop l.effect-index l.effects) < notes u l.effects → changes_in l.effects ≤ spare u l.self.book;
  same : Did [] 0 l.fn.self l.self;
  table : l.self.table ≡ l.fn.self.table;
}
