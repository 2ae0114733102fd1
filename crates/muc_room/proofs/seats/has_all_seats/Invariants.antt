use Rattle.std.proofs.Common.{◌≡◌, ◌+◌, ◌-◌, ◌<◌, ◌^◌, drop, min}
use Rattle.muc_room.specs.Seats.{seat_count}
use Rattle.muc_room.proofs.seats.has_all_seats.Given as goal

abbrev pub invariant-loop-occupant : goal.invariant-loop-occupant
invariant-loop-occupant l = record {
  fits : l.count < 2 ^ 64;
  whole : min (l.count + seat_count (drop l.occupant-index l.occupants)) (2 ^ 64 - 1) ≡ min (seat_count l.occupants) (2 ^ 64 - 1);
}
