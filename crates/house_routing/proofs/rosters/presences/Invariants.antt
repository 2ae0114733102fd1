use Rattle.std.proofs.Common.{◌≡◌, ◌++◌, drop, map}
use Rattle.std.specs.List.{filter}
use Rattle.house_model.specs.Presences.{presence_of}
use Rattle.house_world.specs.Worlds.{seen}
use Rattle.house_routing.proofs.rosters.presences.Given as goal

abbrev pub invariant-loop-h : goal.invariant-loop-h
invariant-loop-h l =
    l.found.items ++ map (presence_of (seen l.world)) (filter (λ h. h.available) (drop l.h-index l.sessions))
    ≡ map (presence_of (seen l.world)) (filter (λ h. h.available) l.sessions)
