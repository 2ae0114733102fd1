use Rattle.std.proofs.Common.{◌≡◌, ◌≤◌, replicate}
use Rattle.std.specs.Prelude.{vec_capacity, vec_len}
use Rattle.outside.specs.Polls.{untold_seat}
use Rattle.outside.proofs.clean_poller.free_seats.Given as goal

abbrev pub invariant-loop-k : goal.invariant-loop-k
invariant-loop-k l = record {
  done : l.seats.items ≡ replicate l._k untold_seat;
  len : vec_len l.seats ≡ l._k;
  capacity : l.places ≤ vec_capacity l.seats;
}
