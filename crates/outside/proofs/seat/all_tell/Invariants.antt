use Rattle.std.proofs.Common.{◌≡◌, drop}
use Rattle.outside.specs.Polls.{all_tell}
use Rattle.outside.proofs.seat.all_tell.Given as goal

abbrev pub invariant-loop-seat : goal.invariant-loop-seat
invariant-loop-seat l = record {
  rest : all_tell (drop l.seat-index l.seats) ≡ all_tell l.seats;
}
