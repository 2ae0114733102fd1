use Rattle.std.proofs.Common.{◌≡◌, ◌≤◌, [], length, map, ◌++◌, ◌+◌, All}
use Rattle.std.specs.Prelude.{vec_capacity, vec_len, None}
use Rattle.outside.specs.Posts.{all_of}
use Rattle.conn_staff.specs.Workers.{AllHaveRoom, outfit_at, outfit_of, passes_at}
use Rattle.conn_staff.proofs.roster.hire.Given as goal

abbrev pub invariant-loop-poller : goal.invariant-loop-poller
invariant-loop-poller g l = record {
  can_next : (goal.iterator-loop-poller g).can_next l.poller-iterator;
  is_finite : (goal.iterator-loop-poller g).is_finite l.poller-iterator;
  passes : all_of (map passes_at l.workers.items) ++ l.left.rest.items ≡ l.fn.passes.items;
  posts : map outfit_at l.workers.items ++ map outfit_of l.poller-iterator.rest.items ≡ map outfit_of l.fn.posts.items;
  enough : length l.left.rest.items ≡ length (all_of (map (λ p. p.sources.items) l.poller-iterator.rest.items));
  benches : AllHaveRoom _ _ _ _ l.free.rest.items l.poller-iterator.rest.items;
  busy : All (λ w. All (λ p. p.busy ≡ None) w.places.items) l.workers.items;
  said : All (λ w. w.said ≡ []) l.workers.items;
  sources : All (λ w. (w.sources.items ≡ []) × (length w.places.items ≤ vec_capacity w.sources)) l.workers.items;
  room : vec_len l.workers + length l.poller-iterator.rest.items ≤ vec_capacity l.workers;
}
