use Rattle.std.proofs.Common.{◌≡◌, ◌++◌, drop, map}
use Rattle.house_model.specs.Presences.{shown_of}
use Rattle.house_world.specs.Worlds.{seen}
use Rattle.house_routing.proofs.sight.shown_among.Given as goal

abbrev pub invariant-loop-other : goal.invariant-loop-other
invariant-loop-other l =
    l.presences.items ++ map (shown_of (seen l.world) l.who) (drop l.other-index l.others) ≡ map (shown_of (seen l.world) l.who) l.others
