use Rattle.std.proofs.Common.{◌≡◌, ◌≤◌, replicate}
use Rattle.std.specs.Prelude.{vec_capacity, vec_len}
use Rattle.outside.specs.Posts.{plain_sources}
use Rattle.outside.proofs.clean_ports.plain_places.Given as goal

abbrev pub invariant-loop-k : goal.invariant-loop-k
invariant-loop-k l = record {
  done : l.sources.items ≡ replicate l._k plain_sources;
  len : vec_len l.sources ≡ l._k;
  capacity : l.places ≤ vec_capacity l.sources;
}
