use Rattle.std.proofs.Common.{◌≡◌, ◌++◌, drop}
use Rattle.std.specs.Prelude.{flat_map, map}
use Rattle.house_model.specs.Presences.{available_of}
use Rattle.house_world.specs.Worlds.{seen}
use Rattle.house_routing.proofs.listing.available_by.Given as goal

abbrev pub invariant-loop-name : goal.invariant-loop-name
invariant-loop-name l =
    l.found.items ++ flat_map (available_of (seen l.world)) (map (λ k. k.items) (drop l.name-index l.names))
    ≡ flat_map (available_of (seen l.fn.world)) (map (λ k. k.items) l.fn.names)
