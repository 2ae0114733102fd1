use Rattle.std.proofs.Common.{◌≡◌, ◌++◌, drop, map}
use Rattle.muc_room.proofs.seats.sessions_of.Given as goal

abbrev pub invariant-loop-seat : goal.invariant-loop-seat
invariant-loop-seat l =
    l.sessions.items ++ map (λ seat. seat.session) (drop l.seat-index l.seat-items) ≡ map (λ seat. seat.session) l.occupant.seats
