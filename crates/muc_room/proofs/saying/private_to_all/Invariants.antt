use Rattle.std.proofs.Common.{◌≡◌, ◌++◌, drop, map}
use Rattle.muc_room.specs.Saying.{private_to}
use Rattle.muc_room.proofs.saying.private_to_all.Given as goal

abbrev pub invariant-loop-seat : goal.invariant-loop-seat
invariant-loop-seat l = l.effects.items ++ map (private_to l.fn.rest) (drop l.seat-index l.seats) ≡ map (private_to l.fn.rest) l.fn.seats
