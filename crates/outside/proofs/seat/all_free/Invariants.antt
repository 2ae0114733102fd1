use Rattle.std.proofs.Common.{◌≡◌, drop}
use Rattle.outside.specs.Polls.{all_free}
use Rattle.outside.proofs.seat.all_free.Given as goal

abbrev pub invariant-loop-seat : goal.invariant-loop-seat
invariant-loop-seat l = record {
  rest : all_free (drop l.seat-index l.seats) ≡ all_free l.seats;
}
