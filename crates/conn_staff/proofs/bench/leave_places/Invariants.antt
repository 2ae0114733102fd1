use Rattle.std.proofs.Common.{◌≡◌, ◌≤◌, length, map, ◌++◌, ◌+◌}
use Rattle.std.specs.Prelude.{vec_capacity, vec_len}
use Rattle.conn_staff.specs.Workers.{source_of}
use Rattle.conn_staff.proofs.bench.leave_places.Given as goal

abbrev pub invariant-loop-place : goal.invariant-loop-place
invariant-loop-place g l = record {
  can_next : (goal.iterator-loop-place g).can_next l.place-iterator;
  is_finite : (goal.iterator-loop-place g).is_finite l.place-iterator;
  passes : l.passes.items ++ map (λ p. p.pass) l.place-iterator.rest.items ≡ l.fn.passes.items ++ map (λ p. p.pass) l.fn.places.items;
  kept : vec_capacity l.passes ≡ vec_capacity l.fn.passes;
  sources : l.sources.items ++ map source_of l.place-iterator.rest.items ≡ map source_of l.fn.places.items;
  room : vec_len l.sources + length l.place-iterator.rest.items ≤ vec_capacity l.sources;
  passes_room : vec_len l.passes + length l.place-iterator.rest.items ≤ vec_capacity l.passes;
}
