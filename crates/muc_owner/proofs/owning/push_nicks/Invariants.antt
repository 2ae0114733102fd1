use Rattle.std.proofs.Common.{◌≡◌, ◌++◌, drop, map}
use Rattle.muc_owner.specs.Owning.{seat_nick}
use Rattle.muc_owner.proofs.owning.push_nicks.Given as goal

abbrev pub invariant-loop-seat : goal.invariant-loop-seat
invariant-loop-seat l =
    l.nicks.items ++ map (seat_nick l.fn.occupant.nick) (drop l.seat-index l.seats)
    ≡ l.fn.nicks.items ++ map (seat_nick l.fn.occupant.nick) l.fn.seats
