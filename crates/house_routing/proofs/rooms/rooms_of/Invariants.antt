use Rattle.std.proofs.Common.{◌≡◌, drop}
use Rattle.std.specs.List.{filter}
use Rattle.muc_service.specs.Rooms.{is_in}
use Rattle.house_model.specs.RoomLookups.{in_order}
use Rattle.house_routing.proofs.rooms.rooms_of.Given as goal

abbrev pub invariant-loop-i : goal.invariant-loop-i
invariant-loop-i l = l.found.items ≡ in_order l.s (filter (is_in l.s) (drop l.i l.hosted))
