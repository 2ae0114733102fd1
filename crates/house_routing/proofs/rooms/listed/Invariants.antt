use Rattle.std.proofs.Common.{◌≡◌, ◌++◌, drop, map, not}
use Rattle.std.specs.List.{filter}
use Rattle.house_model.specs.RoomLookups.{listed, listed_as}
use Rattle.house_routing.proofs.rooms.listed.Given as goal

abbrev pub invariant-loop-h : goal.invariant-loop-h
invariant-loop-h l = l.found.items ++ map listed_as (filter (λ h. not h.room.locked) (drop l.h-index l.h-items)) ≡ listed l.fn.world.rooms
