use Rattle.std.proofs.Common.{◌≡◌, [], take}
use Rattle.std.specs.List.{AllByRecursion}
use Rattle.archive_table.specs.Tables.{archives_of}
use Rattle.house_world.specs.Readiness.{HasPlaces}
use Rattle.house_world.specs.Wholes.{IsTied}
use Rattle.house_world.specs.Worlds.{Did}
use Rattle.house_world.proofs.world.World.take_rows.Given as goal

abbrev pub invariant-loop-effect : goal.invariant-loop-effect
invariant-loop-effect l = record {
  tied : IsTied l.self.table;
  rows : AllByRecursion (HasPlaces l.effects l.self.archives) (take l.effect-index l.effects);
  same : Did [] 0 l.fn.self l.self;
  table : l.self.table ≡ l.fn.self.table;
  book : l.self.book ≡ l.fn.self.book;
  archives : archives_of l.self.archives ≡ archives_of l.fn.self.archives;
}
