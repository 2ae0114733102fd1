use Rattle.std.proofs.Common.{◌≡◌, ◌-◌, ◌^◌, length}
use Rattle.house_model.specs.Fitting.{AreSmall}
use Rattle.house_world.specs.Hosting.{but_rooms}
use Rattle.house_world.specs.declared.world.World as code
use Rattle.house_world.specs.Readiness.{AreFilable, AreNotable, AreReady}
use Rattle.house_world.specs.Wholes.{IsFew, IsTied}
use Rattle.house_world.specs.Worlds.{Did, Stays}
use Rattle.house_world.proofs.world.World.apply_all.Given as goal

abbrev pub invariant-loop-effect : goal.invariant-loop-effect
invariant-loop-effect l = record {
  can_next : (goal.iterator-loop-effect).can_next l.effect-iterator;
  is_finite : (goal.iterator-loop-effect).is_finite l.effect-iterator;
  answered : length l.self.answers.items ≡ length l.self.table.lines;
  tied : IsTied l.self.table;
  small : IsFew (2 ^ 64 - 5001) l.self.table;
  ready : AreReady l.effect-iterator.rest.items l.self.table;
  short : AreSmall l.effect-iterator.rest.items;
  places : AreNotable l.effect-iterator.rest.items l.self.book;
  filable : AreFilable l.effect-iterator.rest.items l.self.archives;
  stays : Stays l.fn.self l.self;
  all : (b : code.World) → Did (but_rooms l.effect-iterator.rest.items) 0 l.self b
      → Did (but_rooms l.fn.effects.items) 0 l.fn.self b;
}
