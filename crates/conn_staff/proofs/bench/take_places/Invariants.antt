use Rattle.std.proofs.Common.{◌≡◌, ◌≤◌, length, map, ◌++◌, ◌+◌, All}
use Rattle.std.specs.Prelude.{vec_capacity, vec_len, None}
use Rattle.conn_staff.specs.Workers.{source_of}
use Rattle.conn_staff.proofs.bench.take_places.Given as goal

abbrev pub invariant-loop-clock : goal.invariant-loop-clock
invariant-loop-clock g l = record {
  can_next : (goal.iterator-loop-clock g).can_next l.clock-iterator;
  is_finite : (goal.iterator-loop-clock g).is_finite l.clock-iterator;
  enough : length l.clock-iterator.rest.items ≤ length l.left.rest.items;
  passes : map (λ p. p.pass) l.places.items ++ l.left.rest.items ≡ l.fn.left.rest.items;
  sources : map source_of l.places.items ++ l.clock-iterator.rest.items ≡ l.fn.sources.items;
  busy : All (λ p. p.busy ≡ None) l.places.items;
  room : vec_len l.places + length l.clock-iterator.rest.items ≤ vec_capacity l.places;
}
